-- What `all` says over the numbers below n.
use Rattle.std.proofs.Common.{◌≡◌, ℕ, ◌<◌, Bool, true, false, ◌↔◌, List, length, Option, sym, refl, ◌∙◌, subst, arith, zero-add, IsTrue}
use Rattle.std.proofs.lemmas.Iterator.{cases_from_all, YieldsList-from_range}
use Rattle.std.proofs.lemmas.List.FromFn.{length-range_with_len, get_or-range_with_len}
use Rattle.std.proofs.iter.Yields.{nat_range_steps}
use Rattle.std.specs.Bool.{MatchBool}
use Rattle.std.specs.Fn.{Called}
use Rattle.std.specs.Iterator.{YieldsThen}
use Rattle.std.specs.List.{range_with_len, FoldsTo, AllWithin, HoldsAt}
use Rattle.std.specs.Option.{MatchOption}
use Rattle.std.specs.declared.ops.Range.{Range}
use denote.Param.Members.{Mut}

below : (n : ℕ) (P : ℕ → Type 0) (r : Bool) → MatchBool r (AllWithin P (range_with_len 0 n) 0 (length (range_with_len 0 n))) ((k : ℕ) × (k < length (range_with_len 0 n)) × HoldsAt (λ x. P x → ⊥) (range_with_len 0 n) k) → IsTrue r ↔ ((k : ℕ) → k < n → P k)
below n P true c = (
  (λ _ k lt. subst P (get_or-range_with_len 0 n k 0 lt ∙ zero-add k) (c k 0 (omega arith) (omega (arith, length-range_with_len 0 n)))),
  (λ _. refl),
)
below n P false c = (
  (λ t. absurd (cc)),
  (λ each.
      let lt : c.0 < n = omega (arith, c.1, length-range_with_len 0 n) in
      absurd (c.2 0 (subst P (sym (get_or-range_with_len 0 n c.0 0 lt ∙ zero-add c.0)) (each c.0 lt)))),
)

-- the closure f answers true just where P holds
pub all_below : {F : Type 0} {g : Mut F (ℕ × Unit {0}) Bool} {s : Range ℕ} (u : Range ℕ) (f : F) (r : Bool) (n : ℕ) (P : ℕ → Type 0) → (xs : List ℕ) × (o : Option ℕ) × (j : F) × YieldsThen nat_range_steps s xs o u × FoldsTo (λ p x q. Called g p (x, tt) true q) f xs j × MatchOption o (r ≡ true) (λ x. (r ≡ false) × ((h : F) × Called g j (x, tt) false h)) → s ≡ record { start = 0; end = n } → ((x : ℕ) (q : F) → Called g f (x, tt) true q → (q ≡ f) × P x) → ((x : ℕ) (q : F) → Called g f (x, tt) false q → P x → ⊥) → IsTrue r ↔ ((k : ℕ) → k < n → P k)
all_below u f r n P ran e passes fails = below n P r (cases_from_all u f r P (λ x. P x → ⊥) ran (YieldsList-from_range 0 n n e (omega arith)) passes fails)
