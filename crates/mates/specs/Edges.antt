-- The edge that a walk goes round, in a reading and in a row.
use Rattle.std.specs.Prelude.{◌≡◌, ℕ, ◌<◌, List, ◌≢◌}
use Rattle.rules.specs.Rows.{corner}
use Rattle.rules.specs.Readings.{Reading, reads, face, On}
use Rattle.halves.specs.declared.edge.Edge.{Edge}
use Rattle.halves.specs.declared.half_face.HalfFace.{HalfFace}
use Rattle.halves.specs.HalfFaces.{rows_of}

-- three different vertices
abbrev pub Apart : Reading → Type 0
Apart a = (a.p ≢ a.q) × (a.q ≢ a.r) × (a.p ≢ a.r)

-- u and v are two vertices of a reading
abbrev pub Spans : Reading → ℕ → ℕ → Type 0
Spans a u v = On u a × On v a × (u ≢ v)

-- the edge is one of the half-face
abbrev pub Has : HalfFace → Edge → Type 0
Has f e = Spans (reads (rows_of f) f.number) e.from e.to

-- corner k of the row x is neither corner i nor at u or v
abbrev pub Free : List ℕ → ℕ → ℕ → ℕ → ℕ → Type 0
Free x i u v k = (k ≢ i) × (corner x k ≢ u) × (corner x k ≢ v)

-- half-face j of the row x, other than half-face i, has u and v too
pub record Across (x : List ℕ) (i u v j : ℕ) : Type 0 where
  pub low : j < 4
  pub other : j ≡ i → ⊥
  pub spans : Spans (face x j) u v
