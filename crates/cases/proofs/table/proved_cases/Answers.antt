use Rattle.std.proofs.Common.{refl}
use Rattle.cases.specs.Table.{cases}
use Rattle.cases.proofs.Passing.{table_holds}
use Rattle.cases.proofs.table.proved_cases.Goals as goal

pub returns : goal.returns
unfolding cases
returns c = record { count = refl; hold = table_holds }
