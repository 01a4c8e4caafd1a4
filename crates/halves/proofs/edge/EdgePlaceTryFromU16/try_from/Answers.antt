use Rattle.std.proofs.Common.{◌<◌, arith}
use Rattle.refusal.specs.declared.Refusal.{Refusal}
use Rattle.refusal.specs.Numbers.{number_of}
use Rattle.halves.specs.Edges.{PlaceCause}
use Rattle.halves.specs.Edges.PlaceCause.{high}
use Rattle.halves.proofs.edge.EdgePlaceTryFromU16.try_from.Goals as goal

pub returns-then-number-gt2 : goal.returns-then-number-gt2
returns-then-number-gt2 c = record { applies = high c.if-number-gt2.true; none_before = before }
  where
    before : (d : Refusal) → number_of d < 4 → PlaceCause c.args.number d → ⊥
    before _ l (high k) = omega arith
