-- How far a walk over a web has come, as its marks say.
-- A mark is 0 at an item that the walk has not met. Else it is 8 times the number of sides that are done with,
-- and 1 more than the side by which the walk came in, or 5 at the item that it started from.
use Rattle.std.specs.Prelude.{◌≡◌, ℕ, suc, ◌+◌, ◌-◌, ◌/◌, ◌%◌, ◌<◌, ◌≤◌, ◌⊎◌, List, [], ◌∷◌, length, drop, Some, Option, MatchOption, slice_index, slice_index_or, slice_set}
use Rattle.carry.specs.declared.net.Place.{Place}
use Rattle.carry.specs.Kinds.{Kind}
use Rattle.carry.specs.Webs.{Web}
use Rattle.carry.specs.Agreement.{FirstItem}
use Rattle.carry.specs.Counting.{Counts}

-- m is what the steps of a way from the item f to the item i come to
pub data Led (w : Web) (k : Kind) (f : ℕ) : ℕ → ℕ → Type 0 where
  starts : Led w k f f k.neutral
  goes : {i s m : ℕ} {p : Place} → Led w k f i m → w.joins i s ≡ Some p → Led w k f p.item (k.combined m (w.steps i s))

-- what is left to do, which each move lowers
abbrev pub weight : List ℕ → ℕ
weight [] = 0
weight (m ∷ ms) = (7 - (m + 7) / 8) + weight ms

-- i is met, and the walk comes back to it
abbrev pub Open : Web → List ℕ → ℕ → Type 0
Open w ms i = (0 < slice_index ms i) × (slice_index ms i / 8 ≤ w.sides)

-- each mark that is not 0 is one of a walk, and what an item's sides that are done with join is met
pub record Marked (w : Web) (ms : List ℕ) : Type 0 where
  pub fits : w.items ≤ length ms
  pub came : (i : ℕ) → i < w.items → 0 < slice_index ms i → (0 < slice_index ms i % 8) × (slice_index ms i % 8 ≤ 5) × (slice_index ms i / 8 ≤ w.sides + 1)
  pub tried : (i s : ℕ) (p : Place) → 0 < slice_index ms i → s < slice_index ms i / 8 → w.joins i s ≡ Some p → 0 < slice_index ms p.item

-- no item is open: the pieces that are begun are done
pub record Rests (w : Web) (ms : List ℕ) : Type 0 where
  pub marked : Marked w ms
  pub done : (i : ℕ) → i < w.items → 0 < slice_index ms i → w.sides < slice_index ms i / 8

-- what the piece that starts at root has added to marks and labels that were ms₀ and ls₀
pub record Grown (w : Web) (k : Kind) (root : ℕ) (ms₀ ls₀ ms ls : List ℕ) : Type 0 where
  pub begun : 0 < slice_index ms root
  pub neutral : slice_index_or ls root 0 ≡ k.neutral
  pub kept : (i : ℕ) → i < w.items → 0 < slice_index ms₀ i → (w.sides < slice_index ms i / 8) × (slice_index ls i ≡ slice_index ls₀ i)
  pub led : (i : ℕ) → i < w.items → 0 < slice_index ms i → (0 < slice_index ms₀ i) ⊎ Led w k root i (slice_index ls i)

-- the open items, in the order in which they were met: rank says how far an item is from the root
pub record Ranked (w : Web) (ms : List ℕ) (item : ℕ) (rank : ℕ → ℕ) : Type 0 where
  pub top : (i : ℕ) → i < w.items → Open w ms i → rank i ≤ rank item
  pub apart : (i j : ℕ) → i < w.items → j < w.items → Open w ms i → Open w ms j → rank i ≡ rank j → i ≡ j
  pub parent : (i : ℕ) → i < w.items → Open w ms i → slice_index ms i % 8 < 5 → (p : Place) × (w.joins i (slice_index ms i % 8 - 1) ≡ Some p) × Open w ms p.item × (suc (rank p.item) ≡ rank i)
  pub root : (i : ℕ) → i < w.items → Open w ms i → slice_index ms i % 8 ≡ 5 → rank i ≡ 0

-- the walk stands at item
pub record Walking (w : Web) (ms : List ℕ) (item : ℕ) : Type 0 where
  pub marked : Marked w ms
  pub inside : item < w.items
  pub stands : Open w ms item
  pub ranked : (rank : ℕ → ℕ) × Ranked w ms item rank

-- what trying a side of item does: nothing where it is open or joins an item that is met, else it enters that item
abbrev pub Tried : Web → Kind → ℕ → ℕ → List ℕ → List ℕ → List ℕ → List ℕ → ℕ → Type 0
Tried w k item side ms ls ms' ls' r =
    ((r ≡ item) × (ms' ≡ ms) × (ls' ≡ ls) × ((p : Place) → w.joins item side ≡ Some p → 0 < slice_index ms p.item)) ⊎
    ((p : Place) × (w.joins item side ≡ Some p) × (slice_index ms p.item ≡ 0) × (r ≡ p.item) × (ms' ≡ slice_set ms p.item (1 + p.side)) × (ls' ≡ slice_set ls p.item (k.combined (slice_index ls item) (w.steps item side))))

-- what one move of the walk does: it goes on from some item, or the piece is done
pub record Advanced (w : Web) (k : Kind) (ms ls ms' ls' : List ℕ) (r : Option ℕ) : Type 0 where
  pub goes : MatchOption r (Rests w ms') (λ next. Walking w ms' next)
  pub lowers : weight ms' < weight ms
  pub grows : (root : ℕ) (ms₀ ls₀ : List ℕ) → Grown w k root ms₀ ls₀ ms ls → Grown w k root ms₀ ls₀ ms' ls'
  pub rest : drop w.items ms' ≡ drop w.items ms

-- every item has what the steps of a way from the first item of its piece come to
pub record Spread (w : Web) (k : Kind) (ls : List ℕ) (pieces : ℕ) : Type 0 where
  pub led : (i : ℕ) → i < w.items → (f : ℕ) × FirstItem w f × Led w k f i (slice_index ls i)
  pub grounded : (i : ℕ) → FirstItem w i → slice_index ls i ≡ k.neutral
  pub counted : Counts (FirstItem w) w.items pieces
