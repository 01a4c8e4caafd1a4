-- What is said of a half-face, said of its ground and its number.
use Rattle.std.proofs.Common.{◌≡◌, ℕ, List, ap, subst}
use denote.Ref.{Bor}
use Rattle.ground.specs.declared.stage.Sealed.{Sealed}
use Rattle.ground.specs.Grounds.{plain_sealed}
use Rattle.halves.specs.declared.half_face.HalfFace.{HalfFace}
use Rattle.halves.specs.HalfFaces.{rows_of}

pub same_rows : (f g : HalfFace) → f.ground ≡ g.ground → rows_of f ≡ rows_of g
same_rows f g = ap (λ (sealed : Bor Sealed). (plain_sealed sealed.now).list)

pub said_of : (P : List (List ℕ) → ℕ → Type 0) (f : HalfFace) (sealed : Bor Sealed) (h : ℕ) → f.ground ≡ sealed → f.number ≡ h → P (rows_of f) f.number → P (plain_sealed sealed.now).list h
said_of P f sealed h g n x = subst (P (plain_sealed sealed.now).list) n (subst (λ (s : Bor Sealed). P (plain_sealed s.now).list f.number) g x)
