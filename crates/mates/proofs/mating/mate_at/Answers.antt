use Rattle.std.proofs.Common.{ℕ, List, sym, subst}
use Rattle.rules.specs.Readings.{reads}
use Rattle.halves.specs.HalfFaces.{rows_of}
use Rattle.halves.proofs.Grounds.{same_rows}
use Rattle.mates.specs.Edges.{Spans}
use Rattle.mates.proofs.EdgePlaces.{runs_spans}
use Rattle.mates.proofs.Steps.{reads_apart}
use Rattle.mates.proofs.Returning.{mate_spans}
use Rattle.mates.proofs.mating.mate_at.Goals as goal

pub place_of-requires : goal.place_of-requires
place_of-requires c =
    let here = c.args.here in let edge = c.edge-edge.result in let there = c.walk-there.result in
    subst (λ (rs : List (List ℕ)). Spans (reads rs there.number) edge.from edge.to) (sym (same_rows there here c.walk-there.ensures.ground))
    (mate_spans (rows_of here) edge.from edge.to here.number there.number
    (runs_spans (reads (rows_of here) here.number) _ edge.from edge.to (reads_apart (rows_of here) here.lawful here.number here.present) c.edge-edge.ensures).2 c.walk-there.ensures.mate)
