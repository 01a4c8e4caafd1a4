use Rattle.std.proofs.Common.{◌≡◌, ◌*◌, length}
use Rattle.halves.specs.HalfFaces.{rows_of}
use Rattle.mates.proofs.Walking.{Turning, left_at}
use Rattle.mates.proofs.walk.walk.Given as goal

abbrev pub invariant-loop-opposite : goal.invariant-loop-opposite
invariant-loop-opposite l = (l.there.ground ≡ l.here.ground) × Turning (rows_of l.here) l.edge.from l.edge.to l.here.number l.there.number

abbrev pub decreases-loop-opposite : goal.decreases-loop-opposite
decreases-loop-opposite l = left_at (rows_of l.here) l.edge.from l.edge.to (4 * length (rows_of l.here)) l.there.number
