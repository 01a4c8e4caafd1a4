use Rattle.std.proofs.Common.{◌+◌, ap, arith}
use Rattle.std.proofs.Common.{length}
use Rattle.worklist.proofs.Puts.{length_said, width_spaced, within}
use Rattle.worklist.proofs.put.places_left.Goals as goal

pub returns-in_err-left-2 : goal.returns-in_err-left-2
returns-in_err-left-2 c =
    let ns = c.args.numbers.now in
    rw c.from_residual-in_err-left-2.ensures
    (omega (arith, c.loop-n.invariant, c.in_err-left-2.ensures, c.width.ensures.0, width_spaced ns c.loop-n.n-index c.loop-n-test.true, within ns (c.loop-n.n-index + 1), length_said c.args.word.now ns))

pub loop-n-preserved : goal.loop-n-preserved
loop-n-preserved c =
    omega (arith, c.loop-n.invariant, c.in_ok-left-2.ensures.0, c.in_ok-left-2.ensures.1, c.width.ensures.0, width_spaced c.args.numbers.now c.loop-n.n-index c.loop-n-test.true)
