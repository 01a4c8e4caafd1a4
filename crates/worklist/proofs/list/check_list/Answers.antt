use Rattle.std.proofs.Common.{◌≡◌, ◌+◌, [], ◌∷◌, ◌++◌, Some, Ok, Err, sym, subst, arith, length-append, rules}
use Rattle.worklist.specs.Lists.{TurnedDown}
use Rattle.worklist.specs.Lists.TurnedDown.{long}
use Rattle.worklist.proofs.Once.{once}
use Rattle.worklist.proofs.Wholes.{turned_down, reaches_more, begins_shorter}
use Rattle.worklist.proofs.list.check_list.Goals as goal

pub returns-then-text-gt-MOST_BYTES-clause-told : goal.returns-then-text-gt-MOST_BYTES-clause-told
returns-then-text-gt-MOST_BYTES-clause-told c = long (omega (arith, c.if-text-gt-MOST_BYTES.true))

pub loop-more-preserved : goal.loop-more-preserved
loop-more-preserved c =
    let inv = c.loop-more.invariant.1 in
    let is : c.judge.result ≡ Ok (Some c.in-Some.more) = search rules in
    let next = rw is at c.judge.ensures in (
      omega (arith, c.loop-more.invariant.0, begins_shorter c.loop-more.rest.now next.0 c.in-Some.more.now next.1.0),
      (
        inv.0 ++ (next.0 ∷ []),
        reaches_more c.args.text.now inv.0 c.loop-more.rest.now next.0 c.in-Some.more.now inv.1 next.1.0 next.1.1,
        omega (arith, inv.2, length-append inv.0 (next.0 ∷ [])),
      ),
    )

pub returns-in_default-clause-once : goal.returns-in_default-clause-once
returns-in_default-clause-once c = once c.args.text.now

pub returns-in_err-more-clause-told : goal.returns-in_err-more-clause-told
returns-in_err-more-clause-told c =
    let inv = c.loop-more.invariant.1 in
    let f = c.in_err-more.field-0.0 in
    let is : c.from_residual.result ≡ Err f = search rules in
    let was : (c.judge.result ≡ Err f.refusal) × (f.line ≡ c.loop-more.before + 1) = search rules in
    rw is
    (subst (TurnedDown c.args.text.now f.refusal) (sym was.1)
    (turned_down c.args.text.now f.refusal inv.0 c.loop-more.rest.now c.loop-more.before (omega arith) inv.1 inv.2 (rw was.0 at c.judge.ensures)))

pub returns-in_err-more-clause-once : goal.returns-in_err-more-clause-once
returns-in_err-more-clause-once c = once c.args.text.now
