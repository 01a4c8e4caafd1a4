-- What the questions about a list of rows are answered.
use Rattle.std.specs.Prelude.{◌≡◌, ℕ, ◌*◌, ◌<◌, ◌≤◌, List, [], length, Some, None, Ok, Err, Option, Result, slice_index_or}
use Rattle.refusal.specs.declared.Refusal.{Refusal}
use Rattle.refusal.specs.declared.Refusal.TheVariants.{VertexTooHigh, VerticesEqual, ListTooShort, NoSuchNumber}
use Rattle.refusal.specs.Causes.{Answered, Outcome}
use Rattle.rules.specs.Rows.{In}
use Rattle.rules.specs.Readings.{reads, listed}
use Rattle.rules.specs.Joins.{Joined, OnSkin, Lower, OppositeIs}
use Rattle.rules.specs.Listings.{Many, Filled}

-- THE COUNTS

-- c cells, j joined triangles and s skin triangles
pub record Counted (rs : List (List ℕ)) (c j s : ℕ) : Type 0 where
  pub cells : c ≡ length rs
  pub joined : Many (Lower rs) j
  pub skin : Many (OnSkin rs) s

-- A HALF-FACE

-- what refuses a question about half-face h
pub data HalfCause (rs : List (List ℕ)) (h : ℕ) : Refusal → Type 0 where
  absent : 4 * length rs ≤ h → HalfCause rs h NoSuchNumber

abbrev pub TellsReading : List (List ℕ) → ℕ → Result (List ℕ) Refusal → Type 0
TellsReading rs h = Answered (HalfCause rs h) (λ l. l ≡ listed (reads rs h))

abbrev pub TellsOpposite : List (List ℕ) → ℕ → Result (Option ℕ) Refusal → Type 0
TellsOpposite rs h = Answered (HalfCause rs h) (OppositeIs rs h)

-- An opposite that is told is the only one, and asked of it the question leads back.
abbrev pub OnlyOpposite : List (List ℕ) → ℕ → Result (Option ℕ) Refusal → Type 0
OnlyOpposite rs h (Ok (Some g)) = ((k : ℕ) → Joined rs h k → k ≡ g) × ((r : Result (Option ℕ) Refusal) → TellsOpposite rs g r → r ≡ Ok (Some h))
OnlyOpposite rs h (Ok None) = Unit {0}
OnlyOpposite rs h (Err c) = Unit {0}

-- LISTS

-- cell t has the vertex v
abbrev pub AtVertex : List (List ℕ) → ℕ → ℕ → Type 0
AtVertex rs v t = (t < length rs) × In v (slice_index_or rs t [])

-- cell t has the vertices v and w
abbrev pub AtEdge : List (List ℕ) → ℕ → ℕ → ℕ → Type 0
AtEdge rs v w t = (t < length rs) × In v (slice_index_or rs t []) × In w (slice_index_or rs t [])

-- what refuses to list the cells at the vertex v in so many places
pub data StarCause (rs : List (List ℕ)) (v places : ℕ) : Refusal → Type 0 where
  high : 4095 < v → StarCause rs v places VertexTooHigh
  short : {n : ℕ} → Many (AtVertex rs v) n → places < n → StarCause rs v places ListTooShort

-- what refuses to list the cells at the edge of v and w in so many places
pub data EdgeStarCause (rs : List (List ℕ)) (v w places : ℕ) : Refusal → Type 0 where
  high : 4095 < v → EdgeStarCause rs v w places VertexTooHigh
  high_other : 4095 < w → EdgeStarCause rs v w places VertexTooHigh
  equal : v ≡ w → EdgeStarCause rs v w places VerticesEqual
  short : {n : ℕ} → Many (AtEdge rs v w) n → places < n → EdgeStarCause rs v w places ListTooShort

-- what refuses to list the skin in so many places
pub data SkinCause (rs : List (List ℕ)) (places : ℕ) : Refusal → Type 0 where
  short : {n : ℕ} → Many (OnSkin rs) n → places < n → SkinCause rs places ListTooShort

-- the numbers that have P are written into a list and counted, or a cause applies and nothing is written
abbrev pub TellsList : (Refusal → Type 0) → (ℕ → Type 0) → List ℕ → Result ℕ Refusal → List ℕ → Type 0
TellsList Applies P old = Outcome Applies (λ n new. Filled P n old new) old

abbrev pub TellsStar : List (List ℕ) → ℕ → List ℕ → Result ℕ Refusal → List ℕ → Type 0
TellsStar rs v old = TellsList (StarCause rs v (length old)) (AtVertex rs v) old

abbrev pub TellsEdgeStar : List (List ℕ) → ℕ → ℕ → List ℕ → Result ℕ Refusal → List ℕ → Type 0
TellsEdgeStar rs v w old = TellsList (EdgeStarCause rs v w (length old)) (AtEdge rs v w) old

abbrev pub TellsSkin : List (List ℕ) → List ℕ → Result ℕ Refusal → List ℕ → Type 0
TellsSkin rs old = TellsList (SkinCause rs (length old)) (OnSkin rs) old
