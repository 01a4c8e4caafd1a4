-- A half-face with the ground that it is of.
use Rattle.std.specs.Prelude.{◌≡◌, ℕ, ◌+◌, ◌*◌, ◌<◌, ◌≤◌, ◌⊎◌, List, length, Some, None, Option}
use denote.Ref.{Bor}
use Rattle.rules.specs.Joins.{Joined, OnSkin}
use Rattle.ground.specs.declared.stage.Sealed.{Sealed}
use Rattle.ground.specs.Grounds.{plain_sealed}
use Rattle.halves.specs.declared.half_face.HalfFace.{HalfFace}

-- the rows of its ground
abbrev pub rows_of : HalfFace → List (List ℕ)
rows_of f = (plain_sealed f.ground.now).list

-- half-face s of cell t of the ground, or none if there is none
abbrev pub HalfFaceAt : Bor Sealed → ℕ → ℕ → Option HalfFace → Type 0
HalfFaceAt sealed t s None = (length (plain_sealed sealed.now).list ≤ t) ⊎ (4 ≤ s)
HalfFaceAt sealed t s (Some f) = (f.ground ≡ sealed) × (f.number ≡ 4 * t + s) × (s < 4)

-- the opposite of f, of the same ground, or none if f is open
abbrev pub OppositeOf : HalfFace → Option HalfFace → Type 0
OppositeOf f None = OnSkin (rows_of f) f.number
OppositeOf f (Some g) = (g.ground ≡ f.ground) × Joined (rows_of f) f.number g.number
