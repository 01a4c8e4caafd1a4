use Rattle.rules.proofs.Rounds.{rings}
use Rattle.nets.proofs.corner_step.rings_stand.Goals as goal

pub returns : goal.returns
returns c = rings
