-- Numbers that are counted: how many there are of a kind, and what a listing says of it.
use Rattle.std.proofs.Common.{◌≡◌, ℕ, zero, suc, ◌<◌, ◌≤◌, Bool, true, length, sym, refl, ap, ◌∙◌, subst, ⊎_elim, add-one, arith}
use Rattle.std.proofs.lemmas.Bool.{cases_Bool, cases_eq, both_ways}
use Rattle.carry.specs.Counting.{Counts}
use Rattle.carry.specs.Counting.Counts.{none, one, skip}
use Rattle.rules.specs.Listings.{Many}
use Rattle.rules.specs.Tests.{picks}
use Rattle.rules.proofs.Listed.{count_push, count_skip, listed_as, listing_fits}

module _ {P : ℕ → Type 0} where
  pub counted_le : {n d : ℕ} → Counts P n d → d ≤ n
  counted_le none = omega arith
  counted_le (one c y) = let l = counted_le c in omega arith
  counted_le (skip c y) = let l = counted_le c in omega arith

  counted_none : {n d : ℕ} → Counts P n d → d ≡ 0 → (a : ℕ) → a < n → P a → ⊥
  counted_none none z a l x = omega arith
  counted_none (one c y) z a l x = omega arith
  counted_none {n = suc n} (skip c y) z a l x = ⊎_elim (λ q. y (subst P q x)) (λ q. counted_none c z a (omega arith) x) (cases_eq a n)

  -- at most one is counted: any two are one
  pub counted_one : {n d : ℕ} → Counts P n d → d ≤ 1 → (a b : ℕ) → a < n → b < n → P a → P b → a ≡ b
  counted_one none z a b la lb x y = absurd (omega arith)
  counted_one {n = suc n} (one {c = d} c h) z a b la lb x y =
      ⊎_elim
      (λ qa. ⊎_elim (λ qb. qa ∙ sym qb) (λ qb. absurd (counted_none c (omega arith) b (omega arith) y)) (cases_eq b n))
      (λ qa. absurd (counted_none c (omega arith) a (omega arith) x))
      (cases_eq a n)
  counted_one {n = suc n} (skip c h) z a b la lb x y =
      ⊎_elim (λ qa. absurd (h (subst P qa x)))
      (λ qa. ⊎_elim (λ qb. absurd (h (subst P qb y))) (λ qb. counted_one c z a b (omega arith) (omega arith) x y) (cases_eq b n))
      (cases_eq a n)

  none_counted : {n d : ℕ} → Counts P n d → ((a : ℕ) → a < n → P a → ⊥) → d ≡ 0
  none_counted none never = refl
  none_counted {n = suc n} (one c h) never = absurd (never n (omega arith) h)
  none_counted (skip c h) never = none_counted c (λ a l x. never a (omega arith) x)

  -- where any two are one, at most one is counted
  pub one_counted : {n d : ℕ} → Counts P n d → ((a b : ℕ) → a < n → b < n → P a → P b → a ≡ b) → d ≤ 1
  one_counted none same = omega arith
  one_counted {n = suc n} (one {c = d} c h) same =
      let z : d ≡ 0 = none_counted c (λ a l x. let q = same a n (omega arith) (omega arith) x h in omega arith) in omega arith
  one_counted (skip c h) same = one_counted c (λ a b la lb x y. same a b (omega arith) (omega arith) x y)

-- the numbers below n that pass a test, which those with P do
module _ (f : ℕ → Bool) (P : ℕ → Type 0) (so : (k : ℕ) → f k ≡ true → P k) (to : (k : ℕ) → P k → f k ≡ true) where
  pub counts_picks : (n : ℕ) → Counts P n (length (picks f n))
  counts_picks zero = none
  counts_picks (suc n) =
      ⊎_elim
      (λ t. subst (Counts P (suc n)) (sym (ap (λ (k : ℕ). length (picks f k)) (sym (add-one n)) ∙ count_push f n t ∙ add-one (length (picks f n)))) (one (counts_picks n) (so n t)))
      (λ t. subst (Counts P (suc n)) (sym (ap (λ (k : ℕ). length (picks f k)) (sym (add-one n)) ∙ count_skip f n t)) (skip (counts_picks n) (λ x. both_ways (f n) t (to n x))))
      (cases_Bool (f n))

-- so many numbers have P, all below n
pub many_counts : (f : ℕ → Bool) (P : ℕ → Type 0) (n c : ℕ) → ((k : ℕ) → k < n → f k ≡ true → P k) → ((k : ℕ) → P k → (k < n) × (f k ≡ true)) → Many P c → c ≡ length (picks f n)
many_counts f P n c so to m =
    let a = listed_as f n P so to in
    let l = listing_fits P m.0 (picks f n) m.1 a in
    let k = listing_fits P (picks f n) m.0 a m.1 in
    omega (arith, m.2)
