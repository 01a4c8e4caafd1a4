-- Pieces of a web, and labels that agree over its joins. Labels stand here as the list of their meanings.
use Rattle.std.specs.Prelude.{◌≡◌, ℕ, ◌<◌, ◌≤◌, List, map, length, Some, slice_index}
use Rattle.carry.specs.declared.net.Place.{Place}
use Rattle.carry.specs.Kinds.{Kind}
use Rattle.carry.specs.Webs.{Web}
use Rattle.carry.specs.Counting.{Counts}

-- the piece of the item i: the items that are reached from it by joins
pub data Reach (w : Web) (i : ℕ) : ℕ → Type 0 where
  here : Reach w i i
  on : {j s : ℕ} {p : Place} → Reach w i j → w.joins j s ≡ Some p → Reach w i p.item

-- i is the first item of its piece: it has the lowest number
abbrev pub FirstItem : Web → ℕ → Type 0
FirstItem w i = (i < w.items) × ((j : ℕ) → Reach w i j → i ≤ j)

-- if the side s of the item i is joined, the label of the item that it leads to is that of i combined with the step
abbrev pub AgreesOver : Web → Kind → List ℕ → ℕ → ℕ → Type 0
AgreesOver w k ls i s = (p : Place) → w.joins i s ≡ Some p → slice_index ls p.item ≡ k.combined (slice_index ls i) (w.steps i s)

-- so for every side of the item i
abbrev pub AgreesAt : Web → Kind → List ℕ → ℕ → Type 0
AgreesAt w k ls i = (s : ℕ) → AgreesOver w k ls i s

-- the labels agree
abbrev pub Agrees : Web → Kind → List ℕ → Type 0
Agrees w k ls = (i : ℕ) → AgreesAt w k ls i

-- the first item of each piece is neutral
abbrev pub Grounded : Web → Kind → List ℕ → Type 0
Grounded w k ls = (i : ℕ) → FirstItem w i → slice_index ls i ≡ k.neutral

-- no list of labels agrees
abbrev pub NoneAgree : {M : Type 0} → Web → Kind → (M → ℕ) → Type 0
NoneAgree {M = M} w k meaning = (xs : List M) → w.items ≤ length xs → Agrees w k (map meaning xs) → ⊥

-- ls are the agreeing labels that are neutral at first items, and so many pieces there are
pub record Agreeing {M : Type 0} (w : Web) (k : Kind) (meaning : M → ℕ) (ls : List ℕ) (pieces : ℕ) : Type 0 where
  pub agrees : Agrees w k ls
  pub grounded : Grounded w k ls
  -- any other such list means the same, item by item
  pub only : (xs : List M) → w.items ≤ length xs → Agrees w k (map meaning xs) → Grounded w k (map meaning xs) → (i : ℕ) → i < w.items → slice_index (map meaning xs) i ≡ slice_index ls i
  -- the number of pieces is that of first items, and each item is in the piece of one of them
  pub counted : Counts (FirstItem w) w.items pieces
  pub pieced : (i : ℕ) → i < w.items → (f : ℕ) × FirstItem w f × Reach w f i
