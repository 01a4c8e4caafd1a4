use Rattle.std.proofs.Common.{rules}
use Rattle.ground.specs.Searches.{same_face}
use Rattle.ground.proofs.search.same_vertices.Goals as goal

pub returns-then-lies_on : goal.returns-then-lies_on
unfolding same_face
returns-then-lies_on c = search rules

pub returns-else-lies_on : goal.returns-else-lies_on
unfolding same_face
returns-else-lies_on c = search rules
