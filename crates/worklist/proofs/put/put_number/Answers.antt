use Rattle.std.proofs.Common.{◌≡◌, ℕ, ◌+◌, ◌/◌, ◌%◌, ◌^◌, ◌<◌, ◌≤◌, List, [], ◌∷◌, ◌++◌, length, decimal, sym, ap, ◌∙◌, arith, rules}
use Rattle.std.proofs.lemmas.Fmt.{decimal_digit, decimal_step}
use Rattle.worklist.proofs.Puts.{put_as, put_more, width_one, width_more}
use Rattle.worklist.proofs.put.put_number.Goals as goal

-- two digits
two : (n : ℕ) → 10 ≤ n → n < 100 → ((48 + n / 10) ∷ []) ++ ((48 + n % 10) ∷ []) ≡ decimal n
two n l h =
    let fits : n < 2 ^ 64 = omega arith in
    let tens : n / 10 < 10 = omega arith in
    ap (λ (z : List ℕ). z ++ ((48 + n % 10) ∷ [])) (sym (decimal_digit (n / 10) tens)) ∙ sym (decimal_step n l fits)

two_wide : (n : ℕ) → 10 ≤ n → n < 100 → 2 ≡ length (decimal n)
two_wide n l h = ap length (two n l h)

pub put_byte-requires : goal.put_byte-requires
put_byte-requires c = omega (arith, width_one c.args.n c.if-n-lt10.true, c.requires)

pub returns-then-n-lt10 : goal.returns-then-n-lt10
returns-then-n-lt10 c = put_as _ _ _ _ _ _ (sym (decimal_digit c.args.n c.if-n-lt10.true)) c.put_byte.ensures

pub put_byte-last-requires : goal.put_byte-last-requires
put_byte-last-requires c = omega (arith, two_wide c.args.n c.if-n-lt10.false c.if-n-lt100.true, c.requires)

pub put_byte-requires-then-n-lt100 : goal.put_byte-requires-then-n-lt100
put_byte-requires-then-n-lt100 c =
    omega (arith, two_wide c.args.n c.if-n-lt10.false c.if-n-lt100.true, c.requires, c.put_byte-last.ensures.end, c.put_byte-last.auto.out)

pub returns-then-n-lt100 : goal.returns-then-n-lt100
returns-then-n-lt100 c =
    put_as _ _ _ _ _ _ (two c.args.n c.if-n-lt10.false c.if-n-lt100.true)
    (put_more _ _ _ _ _ _ _ _ c.put_byte-last.ensures c.put_byte-then-n-lt100.ensures)
