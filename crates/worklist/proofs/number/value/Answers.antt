use Rattle.std.proofs.Common.{◌+◌, ◌-◌, ◌≤◌, get_or, drop, sym, ap, ◌∙◌, arith}
use Rattle.std.proofs.lemmas.List.{drop_more, drop_all}
use Rattle.std.specs.Str.{all_ascii_digits}
use Rattle.worklist.specs.ReaderSteps.{read_on}
use Rattle.worklist.proofs.Numbers.{digits_step, digits_stop, digit_bound}
use Rattle.worklist.proofs.number.value.Goals as goal

pub loop-b-preserved : goal.loop-b-preserved
loop-b-preserved c =
    let s = c.args.s.now in
    let i = c.loop-b.b-index in
    let D = drop_more s i 0 c.loop-b-test.true in
    let isd = sym c.if-not-is_ascii_digit.ensures.value in
    let b : get_or s i 0 - 48 ≤ 9 = digit_bound (get_or s i 0) isd in
    let inv = c.loop-b.invariant in (
      inv.0 ∙ ap all_ascii_digits D ∙ digits_step (get_or s i 0) (drop (i + 1) s) isd,
      inv.1 ∙ ap (read_on c.loop-b.v) D,
      λ h. absurd (omega arith),
      λ h. omega (arith, inv.2 (omega arith)),
      λ h. omega (arith, inv.3 (omega arith)),
      λ h. omega (arith, inv.4 (omega arith)),
      λ h. omega (arith, inv.5 (omega arith)),
      λ h. omega (arith, inv.6 (omega arith)),
    )

pub returns-then-not-is_ascii_digit : goal.returns-then-not-is_ascii_digit
returns-then-not-is_ascii_digit c =
    let s = c.args.s.now in
    let i = c.loop-b.b-index in
    c.loop-b.invariant.0 ∙ ap all_ascii_digits (drop_more s i 0 c.loop-b-test.true) ∙ digits_stop (get_or s i 0) (drop (i + 1) s) (sym c.if-not-is_ascii_digit.ensures.value)

pub returns : goal.returns
returns c =
    let D = drop_all c.loop-b.b-index c.args.s.now c.loop-b-test.false in
    (c.loop-b.invariant.0 ∙ ap all_ascii_digits D, sym (c.loop-b.invariant.1 ∙ ap (read_on c.loop-b.v) D))
