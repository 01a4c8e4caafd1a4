use Rattle.std.proofs.Common.{refl}
use Rattle.checks.proofs.TableJoins.{table_sound, table_meant}
use Rattle.checks.proofs.table.TableNet.count.Goals as goal

pub returns : goal.returns
returns g c =
    let t = c.args.self.now in
    record {
      items = refl;
      sound = table_sound t.items t.names _ _ t.few;
      meant = table_meant t.items t.names g.met.L.Label.group t.steps t.few t.long;
    }
