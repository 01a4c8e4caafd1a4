use Rattle.std.proofs.Common.{true, false, sym}
use Rattle.std.proofs.lemmas.Bool.{cond-true, cond-false}
use Rattle.rules.specs.NetTests.{alike}
use Rattle.rules.proofs.TurnNets.{alike_read}
use Rattle.ground.specs.Nets.{joined_rows}
use Rattle.ground.proofs.turn_net.TurnNet.turn_between.Goals as goal

pub returns-then-read_alike : goal.returns-then-read_alike
returns-then-read_alike c =
    let rs = joined_rows c.args.self.now.cells in
    sym (cond-true (alike rs c.args.h c.args.g) 1 0 (alike_read rs c.args.h c.args.g _ _ true c.reading-here.ensures c.reading-there.ensures c.if-read_alike.ensures))

pub returns-else-read_alike : goal.returns-else-read_alike
returns-else-read_alike c =
    let rs = joined_rows c.args.self.now.cells in
    sym (cond-false (alike rs c.args.h c.args.g) 1 0 (alike_read rs c.args.h c.args.g _ _ false c.reading-here.ensures c.reading-there.ensures c.if-read_alike.ensures))
