use Rattle.std.proofs.Common.{refl, arith}
use Rattle.carry.specs.declared.turn.Turn.TheVariants.{Straight}
use Rattle.rules.proofs.Starred.{star_sound}
use Rattle.ground.specs.Grounds.{plain_sealed}
use Rattle.nets.proofs.star_net.StarNetNet.count.Goals as goal

pub returns : goal.returns
returns c =
    let n = c.args.self.now in
    let k = c.counts.ensures in
    let z = k.counted.cells in
    let f = k.few in
    record {
      items = z;
      sound = star_sound (plain_sealed n.ground.now).list n.v n.w k.lawful.no_three (omega arith);
      meant = λ i s. (Straight, refl);
    }
