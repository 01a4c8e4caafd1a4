use Rattle.rules.proofs.Listed.{Writing}
use Rattle.ground.proofs.listing.write_passing.Given as goal

abbrev pub invariant-loop-k : goal.invariant-loop-k
invariant-loop-k g l = Writing g.f l.k l.found l.initial.out l.out
