-- The records of a ground: each has the four corners of a cell and, for each half-face, the half-face that it is joined to.
use Rattle.std.specs.Prelude.{◌≡◌, ℕ, zero, suc, ◌+◌, ◌*◌, ◌/◌, ◌%◌, ◌<◌, Bool, true, cond, List, [], ◌∷◌, map, length, get_or, take, Some, None, Option, ◌≢◌, nat_lt, slice_index, slice_index_or, slice_set}
use Rattle.rules.specs.Tests.{names}
use Rattle.ground.specs.declared.cell.Cell.{Cell}

-- what a read past the end gives
abbrev pub blank : Cell
blank = record { corners = []; joins = [] }

abbrev pub corners_of : Cell → List ℕ
corners_of c = c.corners

-- the rows of the first n records: what the contracts speak of
abbrev pub rows : List Cell → ℕ → List (List ℕ)
rows cs n = map corners_of (take n cs)

-- the half-face that is stored as the opposite of h
abbrev pub join_at : List Cell → ℕ → Option ℕ
join_at cs h = slice_index_or (get_or cs (h / 4) blank).joins (h % 4) None

-- The triangles F of the half-faces below m, and their opposites J: the opposite of h is g exactly if g is another half-face with the same triangle.
-- (The premises stand in one product each, since antt shows a ghost field to be a proposition only some five arrows deep.)
abbrev pub JoinsNear : ℕ → (ℕ → Option ℕ) → Type 0
JoinsNear m J = (h g : ℕ) → (h < m) × (J h ≡ Some g) → g < m

abbrev pub JoinsOther : ℕ → (ℕ → Option ℕ) → Type 0
JoinsOther m J = (h g : ℕ) → (h < m) × (J h ≡ Some g) × (g ≡ h) → ⊥

abbrev pub JoinsSame : (ℕ → ℕ → Bool) → ℕ → (ℕ → Option ℕ) → Type 0
JoinsSame F m J = (h g : ℕ) → (p : (v : ℕ) × (h < m) × (J h ≡ Some g)) → F h p.0 ≡ F g p.0

abbrev pub JoinsWhole : (ℕ → ℕ → Bool) → ℕ → (ℕ → Option ℕ) → Type 0
JoinsWhole F m J = (h g : ℕ) → (h < m) × (g < m) × (g ≢ h) × ((v : ℕ) → F h v ≡ F g v) → names (J h) g ≡ true

-- each record holds four joins
abbrev pub Four : List Cell → ℕ → Type 0
Four cs n = (t : ℕ) → t < n → length (get_or cs t blank).joins ≡ 4

-- WHAT A WRITE LEAVES

-- a half-face that is named has a record below n
abbrev pub Near : ℕ → Option ℕ → Type 0
Near n None = Unit {0}
Near n (Some g) = g / 4 < n

-- the half-face that is named, if one is, is joined to `to`
abbrev pub relinked : List Cell → Option ℕ → Option ℕ → List Cell
relinked cs None to = cs
relinked cs (Some g) to = slice_set cs (g / 4) (record { corners = (get_or cs (g / 4) blank).corners; joins = slice_set (get_or cs (g / 4) blank).joins (g % 4) to })

-- corners 2 and 3 exchanged, with the joins of the two half-faces without them
abbrev pub turned_cell : Cell → Cell
turned_cell c = record { corners = slice_index c.corners 0 ∷ slice_index c.corners 1 ∷ slice_index c.corners 3 ∷ slice_index c.corners 2 ∷ []; joins = slice_index_or c.joins 0 None ∷ slice_index_or c.joins 1 None ∷ slice_index_or c.joins 3 None ∷ slice_index_or c.joins 2 None ∷ [] }

-- cell t turned, and its neighbours joined to the half-faces that they now meet
abbrev pub turned_cells : List Cell → ℕ → List Cell
turned_cells cs t = relinked (relinked (slice_set cs t (turned_cell (slice_index_or cs t blank))) (slice_index_or (get_or cs t blank).joins 2 None) (Some (4 * t + 3))) (slice_index_or (get_or cs t blank).joins 3 None) (Some (4 * t + 2))

-- each of the first k half-faces that ws name is joined to what stands at its place in ts
abbrev pub relinked_first : ℕ → List Cell → List (Option ℕ) → List (Option ℕ) → List Cell
relinked_first zero cs ws ts = cs
relinked_first (suc k) cs ws ts = relinked (relinked_first k cs ws ts) (slice_index_or ws k None) (slice_index_or ts k None)

abbrev pub relinked_all : List Cell → List (Option ℕ) → List (Option ℕ) → List Cell
relinked_all = relinked_first 4

abbrev pub AllNear : ℕ → List (Option ℕ) → Type 0
AllNear n ws = Near n (slice_index_or ws 0 None) × Near n (slice_index_or ws 1 None) × Near n (slice_index_or ws 2 None) × Near n (slice_index_or ws 3 None)

-- place t holds a cell whose neighbours have places, among places with half-faces below 4,096
pub record Linked (cs : List Cell) (t : ℕ) : Type 0 where
  pub low : t < 1024
  pub inside : t < length cs
  pub near : AllNear (length cs) (slice_index_or cs t blank).joins

-- the half-faces of cell t
abbrev pub faces_of : ℕ → List (Option ℕ)
faces_of t = Some (4 * t) ∷ Some (4 * t + 1) ∷ Some (4 * t + 2) ∷ Some (4 * t + 3) ∷ []

abbrev pub nones : List (Option ℕ)
nones = None ∷ None ∷ None ∷ None ∷ []

-- a new cell at place n, with its neighbours joined to it
abbrev pub laid_cells : List Cell → ℕ → List ℕ → List (Option ℕ) → List Cell
laid_cells cs n x ws = relinked_all (slice_set cs n (record { corners = x; joins = ws })) ws (faces_of n)

-- cell t has no neighbours now
abbrev pub freed : List Cell → ℕ → List Cell
freed cs t = relinked_all cs (get_or cs t blank).joins nones

-- cell l is copied to t, and its neighbours follow
abbrev pub moved_cells : List Cell → ℕ → ℕ → List Cell
moved_cells cs l t = relinked_all (slice_set cs t (slice_index_or cs l blank)) (get_or cs l blank).joins (faces_of t)

-- cell t goes, and the last cell takes its place, unless t was the last
abbrev pub lifted_cells : List Cell → ℕ → ℕ → List Cell
lifted_cells cs last t = cond (nat_lt t last) (moved_cells (freed cs t) last t) (freed cs t)
