use Rattle.std.proofs.Common.{◌≡◌, ◌+◌, ◌*◌, ◌≤◌, List, length}
use Rattle.worklist.specs.declared.order.Order.{Order}
use Rattle.worklist.specs.Lists.{Reaches}
use Rattle.worklist.proofs.list.check_list.Given as goal

-- some orders were read, as many as `before` counts, each from a line of two bytes or more
abbrev pub invariant-loop-more : goal.invariant-loop-more
invariant-loop-more l = (2 * l.before + length l.rest ≤ length l.text) × ((os : List Order) × Reaches l.text os l.rest × (l.before ≡ length os))

abbrev pub decreases-loop-more : goal.decreases-loop-more
decreases-loop-more l = length l.rest
