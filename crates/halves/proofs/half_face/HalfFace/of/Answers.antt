use Rattle.std.proofs.Common.{refl, arith}
use Rattle.rules.proofs.Causes.{first_no_half, no_half_cause}
use Rattle.ground.specs.Grounds.{plain_sealed}
use Rattle.halves.proofs.half_face.HalfFace.of.Goals as goal

pub returns-then-h-counts : goal.returns-then-h-counts
returns-then-h-counts c =
    let z = c.counts.ensures.counted.cells in
    let l = c.if-h-counts.true in
    first_no_half (plain_sealed c.args.ground.now).list c.args.h (omega arith)

pub returns : goal.returns
returns c =
    let z = c.counts.ensures.counted.cells in
    let l = c.if-h-counts.false in
    (no_half_cause (plain_sealed c.args.ground.now).list c.args.h (omega arith), (refl, refl))
