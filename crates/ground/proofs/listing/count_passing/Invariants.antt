use Rattle.rules.proofs.Listed.{Count}
use Rattle.ground.proofs.listing.count_passing.Given as goal

abbrev pub invariant-loop-k : goal.invariant-loop-k
invariant-loop-k g l = Count g.f l.k l.found
