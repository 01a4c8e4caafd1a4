use Rattle.std.proofs.Common.{ap, ◌∙◌, set, arith}
use Rattle.index.proofs.Stores.{inserted}
use Rattle.index.proofs.insert.insert.Goals as goal

pub returns : goal.returns
returns g c = ap (λ xs. set xs c.args.at c.args.item) c.copy_within.ensures.after ∙ inserted c.args.items.now c.args.at c.args.len c.args.item (omega arith) (omega arith) c.requires.0 c.requires.1
