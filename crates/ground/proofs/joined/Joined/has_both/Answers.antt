use Rattle.std.proofs.Common.{rules}
use Rattle.ground.specs.Listed.{has_both}
use Rattle.ground.proofs.joined.Joined.has_both.Goals as goal

pub returns-then-has : goal.returns-then-has
unfolding has_both
returns-then-has c = search rules

pub returns-else-has : goal.returns-else-has
unfolding has_both
returns-else-has c = search rules
