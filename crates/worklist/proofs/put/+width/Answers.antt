use Rattle.std.proofs.Common.{◌<◌, arith, rules}
use Rattle.worklist.proofs.Puts.{width_one, width_more, width_most}
use Rattle.worklist.proofs.put.+width.Goals as goal

pub returns-then-n-lt10 : goal.returns-then-n-lt10
returns-then-n-lt10 t c = (width_one c.args.n c.if-n-lt10.true, omega arith)

pub returns-else-n-lt10 : goal.returns-else-n-lt10
returns-else-n-lt10 t c =
    let f : c.args.n < 65536 = search rules in
    let w = width_more c.args.n c.if-n-lt10.false (omega arith) in
    (omega (arith, w, c.width.ensures.0), omega (arith, w, c.width.ensures.0, width_most c.args.n f))
