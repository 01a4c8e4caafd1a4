-- Four numbers among which each digit from 0 to 3 stands are four different digits.
use Rattle.std.proofs.Common.{◌≡◌, ℕ, zero, suc, Some, None, Option, ◌<◌, Bool, true, false, not, eqb, ◌≢◌, ◌⊎◌, [], ◌∷◌, ◌↔◌, IsTrue, ◌∙◌, sym, refl, inl, inr, arith}
use Rattle.std.specs.List.{list_any, AllWithin, HoldsAt}
use Rattle.std.specs.Option.{MatchOption}
use Rattle.std.proofs.lemmas.Bool.{and_from, or_cases, eqb-true, lt-ltb, eq-eqb, ne_eqb, cond-true, cond-false, cases_Bool}
use Rattle.carry.specs.Digits.{different, digits, place}
use Rattle.carry.specs.FourDigits.{each, each_at, all, all_at}

-- whether k is one of the four
abbrev pub among : ℕ → ℕ → ℕ → ℕ → ℕ → Bool
among a b c d k = list_any (λ y. eqb y k) (a ∷ b ∷ c ∷ d ∷ [])

all_among : all (λ a b c d. each (among a b c d)) ≡ true
unfolding different
all_among = refl

stands : (a b c d k : ℕ) → among a b c d k ≡ true → (a ≡ k) ⊎ ((b ≡ k) ⊎ ((c ≡ k) ⊎ (d ≡ k)))
stands a b c d k e = elim (or_cases _ _ e) [
  | inl p ↦ inl (eqb-true a k p)
  | inr e ↦ inr (elim (or_cases _ _ e) [
    | inl p ↦ inl (eqb-true b k p)
    | inr e ↦ inr (elim (or_cases _ _ e) [
      | inl p ↦ inl (eqb-true c k p)
      | inr e ↦ inr (elim (or_cases _ _ e) [ inl p ↦ eqb-true d k p | inr z ↦ absurd (cc) ])
    ])
  ])
]

apart : (x y : ℕ) → x ≢ y → not (eqb x y) ≡ true
apart x y n = rw (ne_eqb x y n)

-- the digits 0, 1, 2 and 3 stand at four places, so no two of the four are equal, and none is another number
module _ (a b c d : ℕ) (h0 : (a ≡ 0) ⊎ ((b ≡ 0) ⊎ ((c ≡ 0) ⊎ (d ≡ 0)))) (h1 : (a ≡ 1) ⊎ ((b ≡ 1) ⊎ ((c ≡ 1) ⊎ (d ≡ 1)))) (h2 : (a ≡ 2) ⊎ ((b ≡ 2) ⊎ ((c ≡ 2) ⊎ (d ≡ 2)))) (h3 : (a ≡ 3) ⊎ ((b ≡ 3) ⊎ ((c ≡ 3) ⊎ (d ≡ 3)))) where
  four_apart : different a b c d ≡ true
  unfolding different
  four_apart =
      and_from _ _
      (and_from _ _ (lt-ltb a 4 (omega arith)) (and_from _ _ (lt-ltb b 4 (omega arith)) (and_from _ _ (lt-ltb c 4 (omega arith)) (lt-ltb d 4 (omega arith)))))
      (and_from _ _ (apart a b (omega arith)) (and_from _ _ (apart a c (omega arith)) (and_from _ _ (apart a d (omega arith)) (and_from _ _ (apart b c (omega arith)) (and_from _ _ (apart b d (omega arith)) (apart c d (omega arith)))))))

different_from : (a b c d : ℕ) → ((k : ℕ) → k < 4 → among a b c d k ≡ true) → different a b c d ≡ true
unfolding different
different_from a b c d h =
    let h0 = stands a b c d 0 (h 0 (omega arith)) in
    let h1 = stands a b c d 1 (h 1 (omega arith)) in
    let h2 = stands a b c d 2 (h 2 (omega arith)) in
    let h3 = stands a b c d 3 (h 3 (omega arith)) in
    four_apart a b c d h0 h1 h2 h3

pub is_different : (a b c d : ℕ) (r : Bool) → (IsTrue r ↔ ((k : ℕ) → k < 4 → IsTrue (among a b c d k))) → r ≡ different a b c d
is_different a b c d true e = sym (different_from a b c d (e.0 refl))
is_different a b c d false e = elim (cases_Bool (different a b c d)) [
  | inl y ↦ absurd (let z = e.1 (each_at (among a b c d) (all_at (λ a b c d. each (among a b c d)) all_among a b c d y)) in cc)
  | inr n ↦ sym n
]

-- the place, or d if there is none
abbrev pub place_or : ℕ → Option ℕ → ℕ
place_or d (Some i) = i
place_or d None = d

-- the first of the digits of n that is k stands at its place
pub placed : (n k : ℕ) (r : Option ℕ) → MatchOption r (AllWithin (λ d. d ≢ k) (digits n) 0 4) (λ i. (i < 4) × HoldsAt (λ d. d ≡ k) (digits n) i × AllWithin (λ d. d ≢ k) (digits n) 0 i) → place n k ≡ place_or 3 r
placed n k None other =
    cond-false _ _ _ (ne_eqb _ _ (other 0 0 (omega arith) (omega arith))) ∙ cond-false _ _ _ (ne_eqb _ _ (other 1 0 (omega arith) (omega arith))) ∙ cond-false _ _ _ (ne_eqb _ _ (other 2 0 (omega arith) (omega arith)))
placed n k (Some zero) (less, is, other) = cond-true _ _ _ (eq-eqb _ _ (is 0))
placed n k (Some (suc zero)) (less, is, other) =
    cond-false _ _ _ (ne_eqb _ _ (other 0 0 (omega arith) (omega arith))) ∙ cond-true _ _ _ (eq-eqb _ _ (is 0))
placed n k (Some (suc (suc zero))) (less, is, other) =
    cond-false _ _ _ (ne_eqb _ _ (other 0 0 (omega arith) (omega arith))) ∙ cond-false _ _ _ (ne_eqb _ _ (other 1 0 (omega arith) (omega arith))) ∙ cond-true _ _ _ (eq-eqb _ _ (is 0))
placed n k (Some (suc (suc (suc zero)))) (less, is, other) =
    cond-false _ _ _ (ne_eqb _ _ (other 0 0 (omega arith) (omega arith))) ∙ cond-false _ _ _ (ne_eqb _ _ (other 1 0 (omega arith) (omega arith))) ∙ cond-false _ _ _ (ne_eqb _ _ (other 2 0 (omega arith) (omega arith)))
placed n k (Some (suc (suc (suc (suc i))))) (less, is, other) = absurd (omega arith)
