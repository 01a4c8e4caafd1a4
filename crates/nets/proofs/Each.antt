-- What `all` says of a list, by its places.
use Rattle.std.proofs.Common.{◌≡◌, ℕ, ◌<◌, Bool, true, false, ◌↔◌, List, length, get_or, sym, refl, subst, arith}
use Rattle.std.specs.Bool.{MatchBool}
use Rattle.std.specs.List.{AllWithin, HoldsAt}

-- the n elements of ks are those of f
pub all_of : (P : ℕ → Type 0) (r : Bool) (ks : List ℕ) (n : ℕ) (f : ℕ → ℕ) → length ks ≡ n → ((i : ℕ) → i < n → get_or ks i 0 ≡ f i)
    → MatchBool r (AllWithin P ks 0 (length ks)) ((k : ℕ) × (k < length ks) × HoldsAt (λ x. P x → ⊥) ks k) → (r ≡ true) ↔ ((k : ℕ) → k < n → P (f k))
all_of P true ks n f l at c = ((λ _ k b. subst P (at k b) (c k 0 (omega arith) (omega arith))), (λ _. refl))
all_of P false ks n f l at c = (
  (λ q. absurd (cc)),
  (λ each. let b : c.0 < n = omega (arith, c.1, l) in absurd (c.2 0 (subst P (sym (at c.0 b)) (each c.0 b)))),
)
