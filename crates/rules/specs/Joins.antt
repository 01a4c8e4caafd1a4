-- Which half-faces of a list of rows are joined, and which are open.
use Rattle.std.specs.Prelude.{◌≡◌, ℕ, ◌*◌, ◌<◌, List, [], length, Some, None, Option, slice_index_or}
use Rattle.rules.specs.Rows.{SameVertices, TooHigh, Repeated}
use Rattle.rules.specs.Readings.{reads, SameTriangle}

-- h is the number of a half-face
abbrev pub Half : List (List ℕ) → ℕ → Type 0
Half rs h = h < 4 * length rs

-- g is the opposite of h: another half-face with the same three vertices
pub record Joined (rs : List (List ℕ)) (h g : ℕ) : Type 0 where
  pub half : Half rs h
  pub there : Half rs g
  pub other : h ≡ g → ⊥
  pub same : SameTriangle (reads rs h) (reads rs g)

-- h is open: no other half-face has its three vertices
abbrev pub OnSkin : List (List ℕ) → ℕ → Type 0
OnSkin rs h = Half rs h × ((g : ℕ) → Joined rs h g → ⊥)

-- a joined triangle goes by the lower of its two half-faces
abbrev pub Lower : List (List ℕ) → ℕ → Type 0
Lower rs h = (g : ℕ) × Joined rs h g × (h < g)

-- no triangle is in three half-faces
abbrev pub NoThree : List (List ℕ) → Type 0
NoThree rs = (h g k : ℕ) → Joined rs h g → Joined rs h k → g ≡ k

-- the opposite of h, or none if it is open
abbrev pub OppositeIs : List (List ℕ) → ℕ → Option ℕ → Type 0
OppositeIs rs h None = OnSkin rs h
OppositeIs rs h (Some g) = Joined rs h g

-- What holds of the rows of every ground: each has four different vertex numbers in range, no two have the same four,
-- and no triangle is in three half-faces.
pub record LawfulRows (rs : List (List ℕ)) : Type 0 where
  pub low : (t : ℕ) → t < length rs → TooHigh (slice_index_or rs t []) → ⊥
  pub differ : (t : ℕ) → t < length rs → Repeated (slice_index_or rs t []) → ⊥
  pub apart : (t u : ℕ) → t < u → u < length rs → SameVertices (slice_index_or rs t []) (slice_index_or rs u []) → ⊥
  pub no_three : NoThree rs
