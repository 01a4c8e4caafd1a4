use Rattle.std.proofs.Common.{length}
use Rattle.pitlist.proofs.run_orders.Given as goal

abbrev pub decreases-loop-order : goal.decreases-loop-order
decreases-loop-order l = length l.rest
