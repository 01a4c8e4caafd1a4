-- The tests of a row's vertex numbers, tied to what they test.
use Rattle.std.proofs.Common.{◌≡◌, ℕ, ◌<◌, true, false, ◌||◌, eqb, ltb, List, get_or, ⊎_elim, arith}
use Rattle.std.proofs.lemmas.Bool.{ltb-true, ltb-false, eqb-true, eqb-false, or_cases, or_parts}
use Rattle.rules.specs.Rows.{TooHigh, Repeated}
use Rattle.rules.specs.Tests.{Fine, high_test, repeat_test}
use Rattle.rules.proofs.Corners.{by_four}

pub high_so : (x : List ℕ) → high_test x ≡ true → TooHigh x
high_so x p =
    ⊎_elim (λ q. (0, omega arith, ltb-true 4095 (get_or x 0 0) q)) (λ p.
    ⊎_elim (λ q. (1, omega arith, ltb-true 4095 (get_or x 1 0) q)) (λ p.
    ⊎_elim (λ q. (2, omega arith, ltb-true 4095 (get_or x 2 0) q)) (λ q. (3, omega arith, ltb-true 4095 (get_or x 3 0) q))
    (or_cases (ltb 4095 (get_or x 2 0)) (ltb 4095 (get_or x 3 0)) p))
    (or_cases (ltb 4095 (get_or x 1 0)) _ p))
    (or_cases (ltb 4095 (get_or x 0 0)) _ p)

pub low_so : (x : List ℕ) → high_test x ≡ false → (i : ℕ) → i < 4 → get_or x i 0 < 4096
low_so x p =
    let a = or_parts (ltb 4095 (get_or x 0 0)) (ltb 4095 (get_or x 1 0) || (ltb 4095 (get_or x 2 0) || ltb 4095 (get_or x 3 0))) p in
    let b = or_parts (ltb 4095 (get_or x 1 0)) (ltb 4095 (get_or x 2 0) || ltb 4095 (get_or x 3 0)) a.1 in
    let d = or_parts (ltb 4095 (get_or x 2 0)) (ltb 4095 (get_or x 3 0)) b.1 in
    by_four (λ (i : ℕ). get_or x i 0 < 4096)
    (omega (arith, ltb-false 4095 (get_or x 0 0) a.0)) (omega (arith, ltb-false 4095 (get_or x 1 0) b.0))
    (omega (arith, ltb-false 4095 (get_or x 2 0) d.0)) (omega (arith, ltb-false 4095 (get_or x 3 0) d.1))

pub repeat_so : (x : List ℕ) → repeat_test x ≡ true → Repeated x
repeat_so x p =
    ⊎_elim (λ q. (0, 1, omega arith, omega arith, eqb-true _ _ q)) (λ p.
    ⊎_elim (λ q. (0, 2, omega arith, omega arith, eqb-true _ _ q)) (λ p.
    ⊎_elim (λ q. (0, 3, omega arith, omega arith, eqb-true _ _ q)) (λ p.
    ⊎_elim (λ q. (1, 2, omega arith, omega arith, eqb-true _ _ q)) (λ p.
    ⊎_elim (λ q. (1, 3, omega arith, omega arith, eqb-true _ _ q)) (λ q. (2, 3, omega arith, omega arith, eqb-true _ _ q))
    (or_cases (eqb (get_or x 1 0) (get_or x 3 0)) (eqb (get_or x 2 0) (get_or x 3 0)) p))
    (or_cases (eqb (get_or x 1 0) (get_or x 2 0)) _ p))
    (or_cases (eqb (get_or x 0 0) (get_or x 3 0)) _ p))
    (or_cases (eqb (get_or x 0 0) (get_or x 2 0)) _ p))
    (or_cases (eqb (get_or x 0 0) (get_or x 1 0)) _ p)

pub differ_so : (x : List ℕ) → repeat_test x ≡ false → (i j : ℕ) → i < j → j < 4 → get_or x i 0 ≡ get_or x j 0 → ⊥
differ_so x p i j l m =
    let a = or_parts (eqb (get_or x 0 0) (get_or x 1 0)) _ p in
    let b = or_parts (eqb (get_or x 0 0) (get_or x 2 0)) _ a.1 in
    let d = or_parts (eqb (get_or x 0 0) (get_or x 3 0)) _ b.1 in
    let e = or_parts (eqb (get_or x 1 0) (get_or x 2 0)) _ d.1 in
    let f = or_parts (eqb (get_or x 1 0) (get_or x 3 0)) (eqb (get_or x 2 0) (get_or x 3 0)) e.1 in
    let P : ℕ → ℕ → Type 0 = λ i k. i < k → get_or x i 0 ≡ get_or x k 0 → ⊥ in
    by_four (λ (i : ℕ). (k : ℕ) → k < 4 → P i k)
    (by_four (P 0) (λ l. absurd (omega arith)) (λ l. eqb-false _ _ a.0) (λ l. eqb-false _ _ b.0) (λ l. eqb-false _ _ d.0))
    (by_four (P 1) (λ l. absurd (omega arith)) (λ l. absurd (omega arith)) (λ l. eqb-false _ _ e.0) (λ l. eqb-false _ _ f.0))
    (by_four (P 2) (λ l. absurd (omega arith)) (λ l. absurd (omega arith)) (λ l. absurd (omega arith)) (λ l. eqb-false _ _ f.1))
    (by_four (P 3) (λ l. absurd (omega arith)) (λ l. absurd (omega arith)) (λ l. absurd (omega arith)) (λ l. absurd (omega arith)))
    i (omega arith) j m l

pub not_high : (x : List ℕ) → high_test x ≡ false → TooHigh x → ⊥
not_high x p h = omega (arith, low_so x p h.0 h.1, h.2)

pub not_repeated : (x : List ℕ) → repeat_test x ≡ false → Repeated x → ⊥
not_repeated x p h = differ_so x p h.0 h.1 h.2 h.3 h.4

pub fine_so : (x : List ℕ) → high_test x ≡ false → repeat_test x ≡ false → Fine x
fine_so x p q = record { below = low_so x p; differ = differ_so x q }
