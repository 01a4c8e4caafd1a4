-- The plain list: rows of four vertices, to which lay, lift and turn are as below. A ground is measured by it.
use Rattle.std.specs.Prelude.{◌≡◌, ℕ, ◌+◌, ◌-◌, ◌<◌, ◌≤◌, min, List, [], ◌∷◌, ◌++◌, length, take, Result, slice_index_or, slice_set}
use Rattle.refusal.specs.declared.Refusal.{Refusal}
use Rattle.refusal.specs.declared.Refusal.TheVariants.{VertexTooHigh, VerticesEqual, NoFreePlace, CellPresent, TriangleTaken, NoSuchNumber}
use Rattle.refusal.specs.Causes.{Outcome}
use Rattle.rules.specs.Rows.{SameVertices, TooHigh, Repeated, turned_row}
use Rattle.rules.specs.Readings.{Reading, face, SameTriangle}

-- rows, room for so many of them, and the count of accepted changes
pub record Plain : Type 0 where
  pub list : List (List ℕ)
  pub places : ℕ
  pub changes : ℕ

-- as made, with room for n rows
abbrev pub empty : ℕ → Plain
empty n = record { list = []; places = n; changes = 0 }

-- other rows, by one more accepted change; the count stops at 65,535
abbrev pub changed : Plain → List (List ℕ) → Plain
changed p rs = record { list = rs; places = p.places; changes = min (p.changes + 1) 65535 }

-- lay appends the row x
abbrev pub laid : Plain → List ℕ → Plain
laid p x = changed p (p.list ++ x ∷ [])

-- lift writes the last row over row t and drops the last
abbrev pub lifted : Plain → ℕ → Plain
lifted p t = changed p (take (length p.list - 1) (slice_set p.list t (slice_index_or p.list (length p.list - 1) [])))

-- turn exchanges the last two vertices of row t
abbrev pub turned : Plain → ℕ → Plain
turned p t = changed p (slice_set p.list t (turned_row (slice_index_or p.list t [])))

-- a row has the same four vertices as x
abbrev pub StandsIn : List (List ℕ) → List ℕ → Type 0
StandsIn rs x = (t : ℕ) × (t < length rs) × SameVertices (slice_index_or rs t []) x

-- the triangle a is one of the four of the row y
abbrev pub TriangleOf : Reading → List ℕ → Type 0
TriangleOf a y = (j : ℕ) × (j < 4) × SameTriangle a (face y j)

-- one of the four triangles of x is in two of the rows
abbrev pub CrowdedIn : List (List ℕ) → List ℕ → Type 0
CrowdedIn rs x = (i : ℕ) × (t : ℕ) × (u : ℕ) × (i < 4) × (t < u) × (u < length rs) × TriangleOf (face x i) (slice_index_or rs t []) × TriangleOf (face x i) (slice_index_or rs u [])

-- what refuses to lay the row x
pub data LayCause (p : Plain) (x : List ℕ) : Refusal → Type 0 where
  high : TooHigh x → LayCause p x VertexTooHigh
  equal : Repeated x → LayCause p x VerticesEqual
  full : p.places ≤ length p.list → LayCause p x NoFreePlace
  present : StandsIn p.list x → LayCause p x CellPresent
  taken : CrowdedIn p.list x → LayCause p x TriangleTaken

-- what refuses a call on row t
pub data RowCause (p : Plain) (t : ℕ) : Refusal → Type 0 where
  absent : length p.list ≤ t → RowCause p t NoSuchNumber

-- lay answers the number of the new row
abbrev pub Lays : Plain → List ℕ → Result ℕ Refusal → Plain → Type 0
Lays p x = Outcome (LayCause p x) (λ n q. (n ≡ length p.list) × (q ≡ laid p x)) p

abbrev pub Lifts : Plain → ℕ → Result (Unit {0}) Refusal → Plain → Type 0
Lifts p t = Outcome (RowCause p t) (λ _ q. q ≡ lifted p t) p

abbrev pub Turns : Plain → ℕ → Result (Unit {0}) Refusal → Plain → Type 0
Turns p t = Outcome (RowCause p t) (λ _ q. q ≡ turned p t) p
