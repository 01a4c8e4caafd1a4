use Rattle.ground.specs.Listed.{open_at}
use Rattle.ground.specs.contracts.joined.fn.Joined.count_skin.count_passing as closure
use Rattle.ground.proofs.joined.Joined.count_skin.Given as goal

abbrev pub ghost-count_passing : goal.ghost-count_passing
ghost-count_passing a = open_at (closure.captures a.passes.now).self.now.records.now
