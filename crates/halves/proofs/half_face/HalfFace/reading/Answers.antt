use Rattle.rules.proofs.Told.{half_there}
use Rattle.halves.specs.HalfFaces.{rows_of}
use Rattle.halves.proofs.half_face.HalfFace.reading.Goals as goal

pub unreachable-requires : goal.unreachable-requires
unreachable-requires c = half_there (rows_of c.args.self) c.args.self.number _ c.args.self.present c.in_default.ensures
