use Rattle.worklist.proofs.Wholes.{begins_as}
use Rattle.worklist.proofs.Runs.{none_left, some_left, none_closes, none_begun}
use Rattle.worklist.proofs.list.next_to_run.Goals as goal

pub returns-in_err-order-clause-inturn : goal.returns-in_err-order-clause-inturn
returns-in_err-order-clause-inturn c = rw c.from_residual.ensures (none_left c.args.rest.now (none_begun c.args.rest.now c.in_err-order.ensures))

pub returns-in-Close-clause-inturn : goal.returns-in-Close-clause-inturn
returns-in-Close-clause-inturn c = none_left c.args.rest.now (none_closes c.args.rest.now _ c.in_ok-order.more.now (begins_as _ _ _ _ c.in-Close.is c.in_ok-order.ensures))

pub returns-in_default-clause-inturn : goal.returns-in_default-clause-inturn
returns-in_default-clause-inturn c = some_left c.args.rest.now c.in_ok-order.order c.in_ok-order.more.now (c.in_ok-order.ensures, c.in_default.not-Close)
