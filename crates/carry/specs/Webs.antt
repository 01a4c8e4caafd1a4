-- What a net means: items, numbered from 0, with numbered sides, of which some are joined.
use Rattle.std.specs.Prelude.{◌≡◌, ℕ, ◌<◌, ◌≤◌, Some, None, Option}
use Rattle.carry.specs.declared.net.Place.{Place}
use Rattle.carry.specs.Kinds.{Kind}

-- joins has what a side of an item is joined to, and steps the meaning of its step label
pub record Web : Type 0 where
  pub items : ℕ
  pub sides : ℕ
  pub joins : ℕ → ℕ → Option Place
  pub steps : ℕ → ℕ → ℕ

-- Nothing is said of the step back: it need not undo the step.
pub record Sound (w : Web) (k : Kind) : Type 0 where
  pub few_items : w.items ≤ 4096
  pub some_side : 1 ≤ w.sides
  pub few_sides : w.sides ≤ 4
  -- a joined side is in range, so a side out of range is joined to none
  pub inside : (i s : ℕ) (p : Place) → w.joins i s ≡ Some p → (i < w.items) × (s < w.sides)
  -- what a side is joined to is in range
  pub within : (i s : ℕ) (p : Place) → w.joins i s ≡ Some p → (p.item < w.items) × (p.side < w.sides)
  -- a join leads back
  pub back : (i s : ℕ) (p : Place) → w.joins i s ≡ Some p → w.joins p.item p.side ≡ Some (record { item = i; side = s })
  -- the step at a side that is joined to none is neutral
  pub still : (i s : ℕ) → w.joins i s ≡ None → w.steps i s ≡ k.neutral

-- every step is what some label means
abbrev pub StepsMeant : {M : Type 0} → Web → (M → ℕ) → Type 0
StepsMeant {M = M} w meaning = (i s : ℕ) → (v : M) × (meaning v ≡ w.steps i s)
