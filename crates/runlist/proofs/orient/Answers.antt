use Rattle.std.proofs.Common.{length, arith}
use Rattle.ground.specs.Grounds.{plain}
use Rattle.runlist.proofs.Counted.{few, few_rows}
use Rattle.runlist.proofs.orient.Goals as goal

pub map-turned-requires : goal.map-turned-requires
map-turned-requires c n e =
    let o = rw e at c.orient.ensures.orients in
    let a = few _ (length (plain c.args.ground.now).list) n o.1.many in
    let b = few_rows c.args.ground.now in
    omega arith
