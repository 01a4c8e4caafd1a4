use Rattle.std.proofs.Common.{rules}
use Rattle.worklist.proofs.Cuts.{headed, none_leads}
use Rattle.worklist.proofs.line.next.Goals as goal

pub returns-in_err-number : goal.returns-in_err-number
returns-in_err-number c =
    rw c.from_residual.ensures (none_leads c.args.s.now _ _ _ (headed c.args.s.now 32 (search rules) (search rules)) c.word.ensures c.in_err-number.ensures)
