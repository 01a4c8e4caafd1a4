use Rattle.std.proofs.Common.{arith}
use Rattle.carry.specs.Digits.{corner_kind}
use Rattle.rules.specs.NetTests.{opposite, crossing}
use Rattle.rules.proofs.Opposites.{rows_exact}
use Rattle.rules.proofs.Webbed.{web_sound}
use Rattle.rules.proofs.CornerNets.{steps_corner}
use Rattle.ground.specs.Grounds.{plain_sealed}
use Rattle.nets.proofs.corners.CornerNetNet.count.Goals as goal

pub returns : goal.returns
returns c =
    let rs = (plain_sealed c.args.self.now.ground.now).list in
    let k = c.counts.ensures in
    let z = k.counted.cells in
    let f = k.few in
    record {
      items = z;
      sound = web_sound rs (opposite rs) corner_kind (crossing rs) (omega arith) (rows_exact rs k.lawful.no_three);
      meant = steps_corner rs k.lawful.differ;
    }
