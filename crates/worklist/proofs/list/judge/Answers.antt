use Rattle.std.proofs.Common.{◌≡◌, Err, None, rules}
use Rattle.refusal.specs.declared.Refusal.TheVariants.{LineMalformed}
use Rattle.worklist.specs.declared.order.Order.TheVariants.{Close}
use Rattle.worklist.specs.Lists.{Begins}
use Rattle.worklist.specs.Lists.LineFault.{malformed, missing, miscounted, early}
use Rattle.worklist.proofs.Cuts.{empty_is}
use Rattle.worklist.proofs.Wholes.{begins_as}
use Rattle.worklist.proofs.list.judge.Goals as goal
use Rattle.worklist.proofs.list.judge.Goals.{then-n-before+else-is_empty-2, else-n-before}

pub returns-then-is_empty : goal.returns-then-is_empty
returns-then-is_empty c = missing (empty_is c.args.rest.now (search rules))

pub returns-in_err-order : goal.returns-in_err-order
returns-in_err-order c =
    let none : c.next_order.result ≡ None = search rules in
    let e : c.from_residual.result ≡ Err LineMalformed = search rules in
    rw e (malformed (search rules) (rw none at c.next_order.ensures))

pub returns-in-Close-2 : goal.returns-in-Close-2
returns-in-Close-2 c =
    let b : Begins c.args.rest.now (Close c.in-Close.n) c.in_ok-order.more.now = begins_as _ _ _ _ c.in-Close.is (search rules) in
    elim c.if-n-before.branch [
      | then-n-before+else-is_empty-2 w ↦ early c.in-Close.n c.in_ok-order.more.now b (search rules)
      | else-n-before w ↦ miscounted c.in-Close.n c.in_ok-order.more.now b w.if-n-before.false
    ]
