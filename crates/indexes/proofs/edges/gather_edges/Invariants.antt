use Rattle.std.proofs.Common.{◌+◌, ◌*◌, ◌≤◌, length}
use Rattle.ground.specs.Grounds.{plain_sealed}
use Rattle.index.specs.Held.{held}
use Rattle.indexes.specs.Gathered.{EdgesBefore}
use Rattle.indexes.proofs.edges.gather_edges.Given as goal

abbrev pub invariant-loop-h : goal.invariant-loop-h
invariant-loop-h l =
    EdgesBefore (plain_sealed l.ground).list l.h (held l.index).entries
    × (12288 ≤ length (held l.index).free + 3 * l.h)
