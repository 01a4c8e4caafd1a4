-- The nets of a list of rows: an item for each row, and its four half-faces as sides.
use Rattle.std.specs.Prelude.{◌≡◌, ℕ, ◌+◌, ◌*◌, ◌<◌, ◌≤◌, ◌↔◌, List, [], ◌∷◌, map, length, Some, None, ◌≢◌, slice_index_or}
use Rattle.carry.specs.declared.net.Place.{Place}
use Rattle.carry.specs.declared.turn.Turn.{Turn}
use Rattle.carry.specs.declared.turn.Turn.TheVariants.{Straight, Turned}
use Rattle.carry.specs.Turns.{turn_meaning, turn_kind}
use Rattle.carry.specs.declared.corner.Corner.{Corner}
use Rattle.carry.specs.Digits.{digit, corner_kind}
use Rattle.carry.specs.Corners.{corner_meaning}
use Rattle.carry.specs.Webs.{Web}
use Rattle.carry.specs.Agreement.{Agrees, Agreeing}
use Rattle.carry.specs.Counting.{Counts}
use Rattle.rules.specs.Rows.{corner, turned_row, Repeated}
use Rattle.rules.specs.Readings.{reads, Alike}
use Rattle.rules.specs.Joins.{Joined}

-- side s of item i and the side p are joined half-faces
pub record JoinedSides (rs : List (List ℕ)) (i s : ℕ) (p : Place) : Type 0 where
  pub item : i < length rs
  pub side : s < 4
  pub entered : p.side < 4
  pub joined : Joined rs (4 * i + s) (4 * p.item + p.side)

-- the items of w are the rows, and its joins those of the half-faces
pub record CellWeb (rs : List (List ℕ)) (w : Web) : Type 0 where
  pub items : w.items ≡ length rs
  pub sides : w.sides ≡ 4
  pub joins : (i s : ℕ) (p : Place) → (w.joins i s ≡ Some p) ↔ JoinedSides rs i s p

-- THE TURN NET

-- the step is 1 where two joined half-faces read alike, else 0
pub record TurnWeb (rs : List (List ℕ)) (w : Web) : Type 0 where
  pub cells : CellWeb rs w
  pub alike : (i s : ℕ) (p : Place) → JoinedSides rs i s p → Alike (reads rs (4 * i + s)) (reads rs (4 * p.item + p.side)) → w.steps i s ≡ 1
  pub unlike : (i s : ℕ) (p : Place) → JoinedSides rs i s p → (Alike (reads rs (4 * i + s)) (reads rs (4 * p.item + p.side)) → ⊥) → w.steps i s ≡ 0
  pub still : (i s : ℕ) → w.joins i s ≡ None → w.steps i s ≡ 0

-- the labels agree over the turn net
abbrev pub TurnsAgree : List (List ℕ) → List Turn → Type 0
TurnsAgree rs xs = (w : Web) × TurnWeb rs w × Agrees w turn_kind (map turn_meaning xs)

-- THE CORNER NET

-- m is the step over the join of corner i of the row x to corner j of the row y: a corner label that sends j to i,
-- and each other corner of y to the corner of x with the same vertex
pub record CornerStep (x : List ℕ) (i : ℕ) (y : List ℕ) (j m : ℕ) : Type 0 where
  pub label : (v : Corner) × (corner_meaning v ≡ m)
  pub entered : digit m j ≡ i
  pub others : (k : ℕ) → k < 4 → (k ≢ j) → corner x (digit m k) ≡ corner y k

-- the steps are those over the joins of the half-faces, and neutral where there is none
pub record CornerWeb (rs : List (List ℕ)) (w : Web) : Type 0 where
  pub cells : CellWeb rs w
  pub across : (i s : ℕ) (p : Place) → JoinedSides rs i s p → CornerStep (slice_index_or rs i []) s (slice_index_or rs p.item []) p.side (w.steps i s)
  pub still : (i s : ℕ) → w.joins i s ≡ None → w.steps i s ≡ corner_kind.neutral

-- CHOICES OF TURNED CELLS

abbrev pub turned_if : Turn → List ℕ → List ℕ
turned_if Straight x = x
turned_if Turned x = turned_row x

-- each row that is labelled 1 turned; a row without a label stands
abbrev pub turned_by : List Turn → List (List ℕ) → List (List ℕ)
turned_by [] rs = rs
turned_by (x ∷ xs) [] = []
turned_by (x ∷ xs) (r ∷ rs) = turned_if x r ∷ turned_by xs rs

-- n of the rows are labelled 1
abbrev pub TurnedMany : List (List ℕ) → List Turn → ℕ → Type 0
TurnedMany rs xs n = Counts (λ t. slice_index_or xs t Straight ≡ Turned) (length rs) n

-- all joined triangles read opposite ways
abbrev pub AllOpposed : List (List ℕ) → Type 0
AllOpposed rs = (h g : ℕ) → Joined rs h g → Alike (reads rs h) (reads rs g) → ⊥

-- whichever cells are turned, some joined triangle reads the same way twice
abbrev pub NoChoice : List (List ℕ) → Type 0
NoChoice rs = (xs : List Turn) → length xs ≡ length rs → AllOpposed (turned_by xs rs) → ⊥

-- labels agree exactly when turning by them makes all joined triangles read opposite ways
abbrev pub TurnsMeant : List (List ℕ) → Type 0
TurnsMeant rs = (xs : List Turn) → TurnsAgree rs xs ↔ AllOpposed (turned_by xs rs)

-- the four vertices of each row differ
abbrev pub AllDiffer : List (List ℕ) → Type 0
AllDiffer rs = (t : ℕ) → t < length rs → Repeated (slice_index_or rs t []) → ⊥

-- xs are agreeing labels, neutral at the first row of each piece
abbrev pub TurnLabels : List (List ℕ) → List Turn → Type 0
TurnLabels rs xs = (w : Web) × (pieces : ℕ) × TurnWeb rs w × Agreeing w turn_kind turn_meaning (map turn_meaning xs) pieces

-- turning n of the rows by such labels gives new
pub record Orientation (rs new : List (List ℕ)) (n : ℕ) : Type 0 where
  pub labels : List Turn
  pub long : length rs ≤ length labels
  pub agreeing : TurnLabels rs labels
  pub list : new ≡ turned_by labels rs
  pub many : TurnedMany rs labels n

-- rows have at most one orientation
abbrev pub OneOrientation : List (List ℕ) → Type 0
OneOrientation rs = (a b : List (List ℕ)) (m n : ℕ) → Orientation rs a m → Orientation rs b n → (a ≡ b) × (m ≡ n)
