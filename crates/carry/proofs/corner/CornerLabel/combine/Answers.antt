use Rattle.std.proofs.Common.{sym, ap, ◌∙◌}
use Rattle.carry.specs.Digits.{number, digit, composed}
use Rattle.carry.specs.FourDigits.{own_digits, two_at, numbers, moved}
use Rattle.carry.proofs.corner.CornerLabel.combine.Goals as goal

pub invariant_of-result : goal.invariant_of-result
invariant_of-result c =
    let s = c.args.self in let o = c.args.other in
    let p = digit (number s.a s.b s.c s.d) in
    let ds = own_digits o.a o.b o.c o.d o.lawful in record {
      lawful = moved _ _ _ _ _ _ _ _
          (ap p ds.0 ∙ sym c.digit_at.ensures) (ap p ds.1 ∙ sym c.digit_at-2.ensures) (ap p ds.2 ∙ sym c.digit_at-3.ensures) (ap p ds.3 ∙ sym c.digit_at-4.ensures)
          (two_at s.a s.b s.c s.d o.a o.b o.c o.d s.lawful o.lawful);
    }

pub returns : goal.returns
unfolding composed
returns c =
    let s = c.args.self in let o = c.args.other in
    let p = digit (number s.a s.b s.c s.d) in
    let ds = own_digits o.a o.b o.c o.d o.lawful in
    numbers _ _ _ _ _ _ _ _
    (c.digit_at.ensures ∙ sym (ap p ds.0)) (c.digit_at-2.ensures ∙ sym (ap p ds.1)) (c.digit_at-3.ensures ∙ sym (ap p ds.2)) (c.digit_at-4.ensures ∙ sym (ap p ds.3))
