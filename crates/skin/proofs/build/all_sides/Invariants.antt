use Rattle.std.proofs.Common.{◌≡◌, length}
use Rattle.ground.specs.Grounds.{plain_sealed}
use Rattle.skin.specs.Pairing.{LeadsAll}
use Rattle.skin.proofs.build.all_sides.Given as goal

abbrev pub invariant-loop-k : goal.invariant-loop-k
invariant-loop-k l = (length l.sides ≡ 12288) × LeadsAll (plain_sealed l.ground).list l.triangles l.k l.sides
