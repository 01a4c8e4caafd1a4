use Rattle.std.proofs.Common.{ℕ, ◌%◌, List, subst}
use Rattle.halves.specs.HalfFaces.{rows_of}
use Rattle.mates.specs.Edges.{Across}
use Rattle.mates.proofs.Steps.{beside_across, across_vertices}
use Rattle.mates.proofs.walk.beside.Goals as goal

pub returns-clause-beside : goal.returns-clause-beside
returns-clause-beside c =
    let here = c.args.here in let edge = c.args.edge in
    beside_across (rows_of here) edge.from edge.to here.number c.across-i.result
    (across_vertices _ _ _ _ _ (subst (λ (x : List ℕ). Across x (here.number % 4) edge.from edge.to c.across-i.result) c.corners.ensures c.across-i.ensures))
