use Rattle.ground.specs.Nets.{joined_rows}
use Rattle.ground.specs.Searches.{Passed}
use Rattle.ground.proofs.joined.Joined.scan.Given as goal

abbrev pub invariant-loop-t : goal.invariant-loop-t
invariant-loop-t l = Passed (joined_rows l.fn.self) l.corners l.t l.found
