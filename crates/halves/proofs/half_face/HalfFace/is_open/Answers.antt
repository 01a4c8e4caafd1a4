use Rattle.std.proofs.Common.{Bool, true, false, Some, None, Option, is_some, not, IsTrue, ◌≡◌, ◌↔◌, refl}
use Rattle.rules.specs.Joins.{OnSkin}
use Rattle.halves.specs.declared.half_face.HalfFace.{HalfFace}
use Rattle.halves.specs.HalfFaces.{rows_of, OppositeOf}
use Rattle.halves.proofs.half_face.HalfFace.is_open.Goals as goal

open_told : (f : HalfFace) (o : Option HalfFace) (b : Bool) → OppositeOf f o → is_some o ≡ not b → IsTrue b ↔ OnSkin (rows_of f) f.number
open_told f None true s e = (λ _. s, λ _. refl)
open_told f (Some g) false j e = (λ z. absurd (cc), λ s. absurd (s.1 _ j.1))
open_told f None false s e = absurd (cc)
open_told f (Some g) true j e = absurd (cc)

pub returns : goal.returns
returns c = open_told c.args.self c.opposite.result c.is_none.result c.opposite.ensures c.is_none.ensures
