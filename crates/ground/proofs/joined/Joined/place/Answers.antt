use Rattle.std.proofs.Common.{ap}
use Rattle.rules.specs.NetTests.{placed, cell_joins}
use Rattle.ground.proofs.joined.Joined.place.Goals as goal

pub returns-in_err-g : goal.returns-in_err-g
unfolding cell_joins
returns-in_err-g c = rw c.from_residual.ensures (ap placed c.in_err-g.ensures)

pub returns : goal.returns
unfolding cell_joins
returns c = ap placed c.in_ok-g.ensures
