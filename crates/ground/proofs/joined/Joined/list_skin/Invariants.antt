use Rattle.ground.specs.Listed.{open_at}
use Rattle.ground.specs.contracts.joined.fn.Joined.list_skin.list_passing as closure
use Rattle.ground.proofs.joined.Joined.list_skin.Given as goal

abbrev pub ghost-list_passing : goal.ghost-list_passing
ghost-list_passing a = open_at (closure.captures a.passes).self.now.records.now
