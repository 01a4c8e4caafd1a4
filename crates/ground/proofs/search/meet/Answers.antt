use Rattle.std.proofs.Common.{length, arith, rules, ◌≡◌}
use Rattle.ground.proofs.Shared.{unmet}
use Rattle.ground.proofs.search.meet.Goals as goal

pub returns-then-shared-lt3 : goal.returns-then-shared-lt3
returns-then-shared-lt3 c =
    let four : length c.args.found ≡ 4 = search rules in
    let corners : length c.args.corners ≡ 4 = search rules in
    unmet c.args.found c.args.corners c.args.row c.args.h four corners (omega (arith, c.shared.ensures, c.if-shared-lt3.true))
