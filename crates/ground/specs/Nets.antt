-- What is read of a ground: the rows of its cells, and what its turn net means.
use Rattle.std.specs.Prelude.{ℕ, List}
use Rattle.carry.specs.Webs.{Web}
use Rattle.rules.specs.NetTests.{turn_web}
use Rattle.ground.specs.declared.joined.Joined.{Joined}
use Rattle.ground.specs.declared.turn_net.TurnNet.{TurnNet}
use Rattle.ground.specs.Records.{rows}

-- the rows of joined cells
abbrev pub joined_rows : Joined → List (List ℕ)
joined_rows t = rows t.records.now t.count

-- the web of a turn net
abbrev pub turn_net_web : TurnNet → Web
turn_net_web t = turn_web (joined_rows t.cells)
