-- Numbers listed in rising order: those below n have at most n places.
use Rattle.std.proofs.Common.{ℕ, zero, suc, ◌-◌, ◌*◌, ◌<◌, ◌≤◌, List, length, get_or, ⊎_elim, arith}
use Rattle.std.proofs.lemmas.Bool.{cases_lt}
use Rattle.refusal.specs.declared.Refusal.{Refusal}
use Rattle.rules.specs.Listings.{Listing}
use Rattle.rules.specs.Questions.{SkinCause}
use Rattle.rules.specs.Questions.SkinCause.{short}

module _ {P : ℕ → Type 0} {ks : List ℕ} (a : Listing P ks) where
  place_below : (i : ℕ) → i < length ks → i ≤ get_or ks i 0
  place_below zero l = omega arith
  place_below (suc i) l = omega (arith, place_below i (omega arith), a.rising i (suc i) (omega arith) l)

  pub few_below : (n : ℕ) → ((k : ℕ) → P k → k < n) → length ks ≤ n
  few_below n low =
      ⊎_elim
      (λ (l : 0 < length ks).
      let last : length ks - 1 < length ks = omega arith in
      omega (arith, place_below (length ks - 1) last, low (get_or ks (length ks - 1) 0) (a.sound (length ks - 1) last)))
      (λ (l : length ks ≤ 0). omega arith)
      (cases_lt 0 (length ks))

-- a list with a place for each half-face is not too short for the skin
pub skin_fits : (rs : List (List ℕ)) (places : ℕ) (c : Refusal) → 4 * length rs ≤ places → SkinCause rs places c → ⊥
skin_fits rs places _ l (short m k) = let f = few_below m.1 (4 * length rs) (λ h s. s.0) in let e = m.2 in omega arith
