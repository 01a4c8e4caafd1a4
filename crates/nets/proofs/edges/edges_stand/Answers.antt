use Rattle.rules.proofs.Hinged.{edges}
use Rattle.nets.proofs.edges.edges_stand.Goals as goal

pub returns : goal.returns
returns c = edges
