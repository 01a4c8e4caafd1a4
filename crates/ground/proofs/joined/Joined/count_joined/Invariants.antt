use Rattle.ground.specs.Listed.{lower_at}
use Rattle.ground.specs.contracts.joined.fn.Joined.count_joined.count_passing as closure
use Rattle.ground.proofs.joined.Joined.count_joined.Given as goal

abbrev pub ghost-count_passing : goal.ghost-count_passing
ghost-count_passing a = lower_at (closure.captures a.passes.now).self.now.records.now
