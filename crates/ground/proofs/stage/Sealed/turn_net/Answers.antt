use Rattle.std.proofs.Common.{sym, subst}
use Rattle.rules.specs.Nets.{TurnWeb}
use Rattle.rules.proofs.TurnNets.{turn_web_is, turns_meant, all_differ}
use Rattle.ground.specs.Grounds.{rows_of}
use Rattle.ground.proofs.Joining.{joined_one}
use Rattle.ground.proofs.stage.Sealed.turn_net.Goals as goal

pub returns : goal.returns
returns c =
    let g = c.args.self.now.cells in
    let rs = rows_of g in
    let one = joined_one g.records.now g.count g.standing.room g.standing.law in
    record {
      turns = subst (TurnWeb rs) (sym c.turn_net.ensures) (turn_web_is rs one);
      computed = c.turn_net.ensures;
      meant = turns_meant rs (all_differ rs g.standing.law.differ) one;
    }
