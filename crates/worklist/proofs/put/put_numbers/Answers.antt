use Rattle.std.proofs.Common.{◌≡◌, ◌+◌, length, get_or, decimal, sym, ap, ◌∙◌, arith}
use Rattle.worklist.proofs.Puts.{put_as, put_more, spaced_more, width_spaced, within}
use Rattle.worklist.proofs.put.put_numbers.Goals as goal

pub put_byte-end-requires : goal.put_byte-end-requires
put_byte-end-requires c =
    let ns = c.args.numbers.now in
    omega (arith, c.loop-n.invariant.end, width_spaced ns c.loop-n.n-index c.loop-n-test.true, within ns (c.loop-n.n-index + 1), c.requires, c.loop-n.auto.out)

pub put_number-end-requires : goal.put_number-end-requires
put_number-end-requires c =
    let ns = c.args.numbers.now in
    omega (arith, c.loop-n.invariant.end, c.put_byte-end.ensures.end, c.put_byte-end.auto.out, width_spaced ns c.loop-n.n-index c.loop-n-test.true, within ns (c.loop-n.n-index + 1), c.requires, c.loop-n.auto.out)

pub loop-n-preserved : goal.loop-n-preserved
loop-n-preserved c =
    put_as _ _ _ _ _ _ (sym (spaced_more c.args.numbers.now c.loop-n.n-index c.loop-n-test.true))
    (put_more _ _ _ _ _ _ _ _ c.loop-n.invariant (put_more _ _ _ _ _ _ _ _ c.put_byte-end.ensures c.put_number-end.ensures))
