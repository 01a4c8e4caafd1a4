-- Four different digits: what holds of all of them is one computed test; the rest goes by the digits.
use Rattle.std.proofs.Common.{◌≡◌, ℕ, zero, suc, ◌<◌, Bool, true, cond, ◌&&◌, eqb, ltb, sym, refl, ap, ◌∙◌, subst, arith}
use Rattle.std.proofs.lemmas.Bool.{and_parts, ltb-true, eqb-true, cond-true}
use Rattle.carry.specs.Digits.{different, number, digit, place, composed, undone}

pub four : (P : ℕ → Type 0) → P 0 → P 1 → P 2 → P 3 → (i : ℕ) → i < 4 → P i
four P p0 p1 p2 p3 zero h = p0
four P p0 p1 p2 p3 (suc zero) h = p1
four P p0 p1 p2 p3 (suc (suc zero)) h = p2
four P p0 p1 p2 p3 (suc (suc (suc zero))) h = p3
four P p0 p1 p2 p3 (suc (suc (suc (suc i)))) h = absurd (omega arith)

-- a test at each digit below 4
abbrev pub each : (ℕ → Bool) → Bool
each P = P 0 && (P 1 && (P 2 && P 3))

pub each_at : (P : ℕ → Bool) → each P ≡ true → (i : ℕ) → i < 4 → P i ≡ true
each_at P e =
    let r = and_parts _ _ e in let s = and_parts _ _ r.1 in let t = and_parts _ _ s.1 in
    four (λ i. P i ≡ true) r.0 s.0 t.0 t.1

-- a test at all four different digits
abbrev pub all : (ℕ → ℕ → ℕ → ℕ → Bool) → Bool
all P = each (λ a. each (λ b. each (λ c. each (λ d. cond (different a b c d) (P a b c d) true))))

pub low : (a b c d : ℕ) → different a b c d ≡ true → (a < 4) × (b < 4) × (c < 4) × (d < 4)
unfolding different
low a b c d h =
    let r = and_parts _ _ (and_parts _ _ h).0 in let s = and_parts _ _ r.1 in let t = and_parts _ _ s.1 in
    (ltb-true a 4 r.0, ltb-true b 4 s.0, ltb-true c 4 t.0, ltb-true d 4 t.1)

pub all_at : (P : ℕ → ℕ → ℕ → ℕ → Bool) → all P ≡ true → (a b c d : ℕ) → different a b c d ≡ true → P a b c d ≡ true
all_at P e a b c d h =
    let l = low a b c d h in
    let e0 = each_at (λ a. each (λ b. each (λ c. each (λ d. cond (different a b c d) (P a b c d) true)))) e a l.0 in
    let e1 = each_at (λ b. each (λ c. each (λ d. cond (different a b c d) (P a b c d) true))) e0 b l.1 in
    let e2 = each_at (λ c. each (λ d. cond (different a b c d) (P a b c d) true)) e1 c l.2 in
    let e3 = each_at (λ d. cond (different a b c d) (P a b c d) true) e2 d l.3 in
    sym (cond-true (different a b c d) (P a b c d) true h) ∙ e3

-- what one test says of a number n with four different digits
abbrev one : ℕ → Bool
one n =
    (eqb (composed 123 n) n && eqb (composed n 123) n) &&
    ((eqb (composed (undone n) n) 123 && eqb (composed n (undone n)) 123) &&
    (different (place n 0) (place n 1) (place n 2) (place n 3) && each (λ k. ltb (digit n k) 4)))

-- and of two
abbrev two : ℕ → ℕ → Bool
two p m = different (digit p (digit m 0)) (digit p (digit m 1)) (digit p (digit m 2)) (digit p (digit m 3))

one_all : all (λ a b c d. one (number a b c d)) ≡ true
unfolding different composed undone
one_all = refl

two_all : all (λ a b c d. all (λ e f g h. two (number a b c d) (number e f g h))) ≡ true
unfolding different
two_all = refl

pub record One (n : ℕ) : Type 0 where
  pub before : composed 123 n ≡ n
  pub after : composed n 123 ≡ n
  pub back : composed (undone n) n ≡ 123
  pub forth : composed n (undone n) ≡ 123
  pub places : different (place n 0) (place n 1) (place n 2) (place n 3) ≡ true
  pub digits : (k : ℕ) → k < 4 → digit n k < 4

pub one_at : (a b c d : ℕ) → different a b c d ≡ true → One (number a b c d)
one_at a b c d h =
    let n = number a b c d in
    let r = and_parts _ _ (all_at (λ a b c d. one (number a b c d)) one_all a b c d h) in
    let s = and_parts _ _ r.0 in
    let t = and_parts _ _ r.1 in
    let u = and_parts _ _ t.0 in
    let v = and_parts _ _ t.1 in
    record {
      before = eqb-true (composed 123 n) n s.0;
      after = eqb-true (composed n 123) n s.1;
      back = eqb-true (composed (undone n) n) 123 u.0;
      forth = eqb-true (composed n (undone n)) 123 u.1;
      places = v.0;
      digits = λ k l. ltb-true (digit n k) 4 (each_at (λ k. ltb (digit n k) 4) v.1 k l);
    }

pub two_at : (a b c d e f g h : ℕ) → different a b c d ≡ true → different e f g h ≡ true → two (number a b c d) (number e f g h) ≡ true
two_at a b c d e f g h p m =
    all_at (λ e f g h. two (number a b c d) (number e f g h))
    (all_at (λ a b c d. all (λ e f g h. two (number a b c d) (number e f g h))) two_all a b c d p)
    e f g h m

-- the digits of a number that four digits write
pub digits_of : (a b c d : ℕ) → a < 10 → b < 10 → c < 10 → d < 10 → (digit (number a b c d) 0 ≡ a) × (digit (number a b c d) 1 ≡ b) × (digit (number a b c d) 2 ≡ c) × (digit (number a b c d) 3 ≡ d)
digits_of a b c d ha hb hc hd = (omega arith, omega arith, omega arith, omega arith)

pub own_digits : (a b c d : ℕ) → different a b c d ≡ true → (digit (number a b c d) 0 ≡ a) × (digit (number a b c d) 1 ≡ b) × (digit (number a b c d) 2 ≡ c) × (digit (number a b c d) 3 ≡ d)
own_digits a b c d h = let l = low a b c d h in digits_of a b c d (omega arith) (omega arith) (omega arith) (omega arith)

pub numbers : (a b c d a' b' c' d' : ℕ) → a ≡ a' → b ≡ b' → c ≡ c' → d ≡ d' → number a b c d ≡ number a' b' c' d'
numbers a b c d a' b' c' d' p q r s = omega arith

digit_small : (n : ℕ) → n < 10000 → (k : ℕ) → digit n k < 10
digit_small n l zero = omega arith
digit_small n l (suc zero) = omega arith
digit_small n l (suc (suc zero)) = omega arith
digit_small n l (suc (suc (suc k))) = omega arith

digit_composed : (p m : ℕ) → p < 10000 → (k : ℕ) → k < 4 → digit (composed p m) k ≡ digit p (digit m k)
unfolding composed
digit_composed p m l =
    let s = digit_small p l in
    let z = digits_of (digit p (digit m 0)) (digit p (digit m 1)) (digit p (digit m 2)) (digit p (digit m 3)) (s (digit m 0)) (s (digit m 1)) (s (digit m 2)) (s (digit m 3)) in
    four (λ k. digit (composed p m) k ≡ digit p (digit m k)) z.0 z.1 z.2 z.3

pub small : (a b c d : ℕ) → different a b c d ≡ true → number a b c d < 10000
small a b c d h = let l = low a b c d h in omega arith

pub composed_assoc : (p m n : ℕ) → p < 10000 → m < 10000 → ((k : ℕ) → k < 4 → digit n k < 4) → composed (composed p m) n ≡ composed p (composed m n)
unfolding composed
composed_assoc p m n lp lm ln =
    let at : (k : ℕ) → k < 4 → digit (composed p m) (digit n k) ≡ digit p (digit (composed m n) k) =
    λ k l. digit_composed p m lp (digit n k) (ln k l) ∙ ap (digit p) (sym (digit_composed m n lm k l)) in
    numbers _ _ _ _ _ _ _ _ (at 0 (omega arith)) (at 1 (omega arith)) (at 2 (omega arith)) (at 3 (omega arith))

-- equal numbers have equal digits
pub same_digits : (a b c d a' b' c' d' : ℕ) → different a b c d ≡ true → different a' b' c' d' ≡ true → number a b c d ≡ number a' b' c' d' → (a ≡ a') × (b ≡ b') × (c ≡ c') × (d ≡ d')
same_digits a b c d a' b' c' d' h h' e =
    let l = low a b c d h in let l' = low a' b' c' d' h' in
    (omega arith, omega arith, omega arith, omega arith)

pub moved : (a b c d a' b' c' d' : ℕ) → a ≡ a' → b ≡ b' → c ≡ c' → d ≡ d' → different a b c d ≡ true → different a' b' c' d' ≡ true
moved a b c d a' b' c' d' p q r s h =
    subst (λ (x : ℕ). different a' b' c' x ≡ true) s (subst (λ (x : ℕ). different a' b' x d ≡ true) r (subst (λ (x : ℕ). different a' x c d ≡ true) q (subst (λ (x : ℕ). different x b c d ≡ true) p h)))
