use Rattle.ground.specs.Listed.{has_both}
use Rattle.ground.specs.contracts.joined.fn.Joined.list_star.list_passing as closure
use Rattle.ground.proofs.joined.Joined.list_star.Given as goal

abbrev pub ghost-list_passing : goal.ghost-list_passing
ghost-list_passing a = has_both (closure.captures a.passes).self.now.records.now (closure.captures a.passes).v (closure.captures a.passes).w
