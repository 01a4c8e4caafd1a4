-- Which bytes write a number. Assumes nothing.
use Rattle.std.proofs.Common.{◌≡◌, ℕ, ◌-◌, ◌^◌, ◌<◌, ◌≤◌, true, false, List, [], ◌∷◌, length, get_or, decimal, sym, ap, ◌∙◌, ⊎_elim, eq-zero-or-pos, arith, rules}
use Rattle.std.specs.Char.{is_ascii_digit}
use Rattle.std.specs.Str.{all_ascii_digits}
use Rattle.std.proofs.lemmas.Str.Parse.{IsNumeralModel, numerals_by_fold}
use Rattle.std.proofs.lemmas.Fmt.{decimal_digit, decimal_nonempty, first_decimal, length-decimal-le, digits_decimal, digits_value-decimal, decimal-digits_value}
use Rattle.worklist.specs.ReaderSteps.{read_on}

pub own : IsNumeralModel (λ ds. all_ascii_digits ds ≡ true) (read_on 0)
own = numerals_by_fold _ (search rules) read_on (search rules)

pub digits_step : (c : ℕ) (cs : List ℕ) → is_ascii_digit c ≡ true → all_ascii_digits (c ∷ cs) ≡ all_ascii_digits cs
digits_step c cs e = rw (e, all_ascii_digits)

pub digits_stop : (c : ℕ) (cs : List ℕ) → is_ascii_digit c ≡ false → all_ascii_digits (c ∷ cs) ≡ false
digits_stop c cs e = rw (e, all_ascii_digits)

module _ (s : List ℕ) (n : ℕ) (small : n < 65536) (e : s ≡ decimal n) where
  fits : n < 2 ^ 64
  fits = omega arith

  pub none_short : length s < 1 → ⊥
  none_short z = omega (arith, decimal_nonempty n fits, ap length e)

  pub none_long : 5 < length s → ⊥
  none_long l =
      let pow : n < 10 ^ 5 = omega arith in
      omega (arith, length-decimal-le 5 n (omega arith) pow fits, ap length e)

  pub none_zero : get_or s 0 0 ≡ 48 → 1 < length s → ⊥
  none_zero z l =
      ⊎_elim
      (λ q.
      let w : s ≡ 48 ∷ [] = e ∙ ap decimal q ∙ decimal_digit 0 (omega arith) in
      omega (arith, ap length w))
      (λ p. omega (arith, first_decimal n p fits, ap (λ (t : List ℕ). get_or t 0 0) e))
      (eq-zero-or-pos n)

  pub none_letter : all_ascii_digits s ≡ false → ⊥
  none_letter f =
      let t : all_ascii_digits s ≡ true = ap all_ascii_digits e ∙ digits_decimal own n fits in
      let k : true ≡ false = sym t ∙ f in
      let z : ◌≡◌ {A = ℕ} 0 1 = cc in omega arith

  pub the_value : read_on 0 s ≡ n
  the_value = ap (read_on 0) e ∙ digits_value-decimal own n fits

pub some_number : (s : List ℕ) (v : ℕ) → all_ascii_digits s ≡ true → v ≡ read_on 0 s → 0 < length s → (get_or s 0 0 ≡ 48 → length s ≡ 1) → v < 65536 → s ≡ decimal v
some_number s v d q l z b =
    let f : read_on 0 s < 2 ^ 64 = omega arith in
    sym (ap decimal q ∙ decimal-digits_value own s d l z f)

pub digit_bound : (c : ℕ) → is_ascii_digit c ≡ true → c - 48 ≤ 9
digit_bound c e = search rules
