use Rattle.std.proofs.Common.{sym, arith}
use Rattle.carry.specs.Turns.{turn_kind}
use Rattle.rules.specs.NetTests.{turning}
use Rattle.rules.proofs.Webbed.{web_sound, steps_bit}
use Rattle.ground.specs.Records.{join_at}
use Rattle.ground.proofs.Viewed.{view_exact, many_of}
use Rattle.ground.specs.Nets.{joined_rows}
use Rattle.ground.proofs.turn_net.TurnNetNet.count.Goals as goal

pub returns : goal.returns
returns c =
    let t = c.args.self.now.cells in
    let z = many_of t in
    let f = t.few in
    let r = t.standing.room in
    record {
      items = sym z;
      sound = web_sound (joined_rows t) (join_at t.records.now) turn_kind (turning (joined_rows t)) (omega arith) (view_exact t);
      meant = steps_bit (joined_rows t);
    }
