use Rattle.rules.proofs.Told.{half_there}
use Rattle.ground.specs.Grounds.{plain_sealed}
use Rattle.skin.proofs.directions.edge.Goals as goal

pub unreachable-requires : goal.unreachable-requires
unreachable-requires c = half_there (plain_sealed c.args.ground.now).list c.args.side.half_face _ c.requires.half c.in_default.ensures
