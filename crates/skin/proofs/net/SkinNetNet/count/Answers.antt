use Rattle.std.proofs.Common.{refl}
use Rattle.skin.proofs.Sided.{sides_sound, steps_meant}
use Rattle.skin.proofs.net.SkinNetNet.count.Goals as goal

pub returns : goal.returns
returns c =
    let t = c.args.self.now in
    record {
      items = refl;
      sound = sides_sound t.count t.sides t.near t.back t.few;
      meant = steps_meant t.count t.sides;
    }
