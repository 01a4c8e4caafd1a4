-- The entries of the face index.
use Rattle.std.specs.Prelude.{ℕ, ◌<◌, ◌≤◌, List}
use Rattle.rules.specs.Readings.{Reading, reads, SameTriangle}
use Rattle.rules.specs.Joins.{Half}
use Rattle.index.specs.declared.entry.Entry.{Entry}
use Rattle.index.specs.declared.keys.Triple.{Triple}
use Rattle.index.specs.Keys.{triple_order}
use Rattle.indexes.specs.Lists.{OneEach}

abbrev pub triangle : Triple → Reading
triangle k = record { p = k.first; q = k.second; r = k.third }

-- k lists the three vertices of a reading in rising order
pub record Sorts (a : Reading) (k : Triple) : Type 0 where
  pub low : k.first < k.second
  pub high : k.second < k.third
  pub same : SameTriangle (triangle k) a

-- k lists the three vertices of half-face h in rising order
abbrev pub OnTriangle : List (List ℕ) → Triple → ℕ → Type 0
OnTriangle rs k h = Half rs h × Sorts (reads rs h) k

-- an entry for each triangle, with its lowest half-face; and each half-face is on a triangle
pub record FaceEntries (rs : List (List ℕ)) (es : List (Entry Triple)) : Type 0 where
  pub each : (h : ℕ) → Half rs h → (k : Triple) × OnTriangle rs k h
  pub entries : OneEach (OnTriangle rs) (λ x g. x ≤ g) triple_order es
