use Rattle.worklist.proofs.Ends.{none_begins, none_ends}
use Rattle.worklist.proofs.list.next_order.Goals as goal

pub returns-in_err-line : goal.returns-in_err-line
returns-in_err-line c = rw c.from_residual.ensures (none_ends c.args.text.now c.in_err-line.ensures)

pub returns-in_err-read_line : goal.returns-in_err-read_line
returns-in_err-read_line c = rw c.from_residual-in_err-read_line.ensures (none_begins c.args.text.now _ _ c.in_ok-line.ensures c.in_err-read_line.ensures)
