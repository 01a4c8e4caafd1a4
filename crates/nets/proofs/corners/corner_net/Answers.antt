use Rattle.std.proofs.Common.{refl}
use Rattle.rules.proofs.CornerNets.{corner_web_is}
use Rattle.ground.specs.Grounds.{plain_sealed}
use Rattle.nets.proofs.corners.corner_net.Goals as goal

pub returns : goal.returns
returns c =
    let k = c.counts.ensures.lawful in
    record { corners = corner_web_is (plain_sealed c.args.ground.now).list k.differ k.no_three; computed = refl }
