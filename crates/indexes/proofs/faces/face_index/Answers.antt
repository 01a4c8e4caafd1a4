use Rattle.std.proofs.Common.{sym, subst}
use Rattle.ground.specs.Grounds.{plain_sealed}
use Rattle.index.specs.Held.{held}
use Rattle.indexes.specs.Faces.{FaceEntries}
use Rattle.indexes.proofs.Triangles.{no_longer_faces}
use Rattle.indexes.proofs.Outcomes.{makes}
use Rattle.indexes.proofs.faces.face_index.Goals as goal

pub returns : goal.returns
returns c =
    let rs = (plain_sealed c.args.ground.now).list in
    makes (FaceEntries rs) (no_longer_faces rs) c.entries.result.now c.args.places.now c.hand_over.result.1 (held c.hand_over.result.0)
    (subst (FaceEntries rs) (sym c.entries.ensures) c.gather_faces-gathered.ensures) c.hand_over.ensures
