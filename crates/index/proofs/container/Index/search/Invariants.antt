use Rattle.std.proofs.Common.{◌-◌, ◌≤◌, length}
use Rattle.index.specs.Search.{LessBefore, GreaterFrom}
use Rattle.index.proofs.container.Index.search.Given as goal

abbrev pub invariant-loop-low : goal.invariant-loop-low
invariant-loop-low g l =
    let o = g.K.Key.order in
    let es = l.entries in
    (l.low ≤ l.high) × (l.high ≤ length es) × LessBefore o l.key es l.low × GreaterFrom o l.key es l.high

abbrev pub decreases-loop-low : goal.decreases-loop-low
decreases-loop-low g l = l.high - l.low
