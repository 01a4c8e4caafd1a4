use Rattle.std.proofs.Common.{length, arith}
use Rattle.ground.specs.Grounds.{plain_sealed}
use Rattle.skin.proofs.Rising.{skin_fits}
use Rattle.skin.proofs.build.skin_triangles.Goals as goal

pub unreachable-requires : goal.unreachable-requires
unreachable-requires c =
    let few = c.counts.ensures.few in
    let cells = c.counts.ensures.counted.cells in
    let long = c.requires in
    skin_fits (plain_sealed c.args.ground.now).list (length c.args.list.now) _ (omega arith) c.in_default.ensures.0.applies
