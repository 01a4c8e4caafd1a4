use Rattle.std.proofs.Common.{length}
use Rattle.pit_checks.proofs.lists.answers.Given as goal

abbrev pub decreases-loop-order : goal.decreases-loop-order
decreases-loop-order l = length l.rest
