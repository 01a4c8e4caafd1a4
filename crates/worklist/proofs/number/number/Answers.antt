use Rattle.std.proofs.Common.{rules}
use Rattle.worklist.proofs.Numbers.{none_short, none_zero}
use Rattle.worklist.proofs.number.number.Goals as goal

pub returns-in-empty : goal.returns-in-empty
returns-in-empty c n small e = none_short c.args.s.now n small e (search rules)

pub returns-in-48 : goal.returns-in-48
returns-in-48 c n small e = none_zero c.args.s.now n small e (search rules) (search rules)
