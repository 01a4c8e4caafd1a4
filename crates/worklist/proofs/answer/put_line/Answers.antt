use Rattle.std.proofs.Common.{◌≡◌, Some, None, Err, refl, arith, rules}
use Rattle.refusal.specs.declared.Refusal.TheVariants.{ListTooShort}
use Rattle.worklist.proofs.Puts.{put_more, holds, no_cause, first_short}
use Rattle.worklist.proofs.answer.put_line.Goals as goal

pub returns-in_err-ok_or : goal.returns-in_err-ok_or
returns-in_err-ok_or c =
    let none : c.places_left.result ≡ None = search rules in
    let e : c.from_residual.result ≡ Err ListTooShort = search rules in
    rw e (first_short _ _ (rw none at c.places_left.ensures), refl)

pub returns : goal.returns
returns c =
    let some : c.places_left.result ≡ Some c.in_ok-ok_or.field-0 = search rules in
    let room = rw some at c.places_left.ensures in (
      no_cause _ _ (omega (arith, room)),
      holds _ _ _ _ (put_more _ _ _ _ _ _ _ _ c.put-end.ensures (put_more _ _ _ _ _ _ _ _ c.put_numbers-end.ensures c.put_byte.ensures)),
    )
