-- From what was written of the numbers that pass a test to what is told of a list.
use Rattle.std.specs.Result.{IsErrAnd}
use Rattle.std.proofs.Common.{◌≡◌, ℕ, ◌<◌, ◌≤◌, Bool, List, length, Ok, Err, Result, sym, ap, ◌∙◌, subst, arith}
use Rattle.refusal.specs.declared.Refusal.{Refusal}
use Rattle.refusal.specs.declared.Refusal.TheVariants.{ListTooShort}
use Rattle.refusal.specs.Causes.{First, NoCause}
use Rattle.rules.specs.Listings.{Listing}
use Rattle.rules.specs.Questions.{TellsList}
use Rattle.rules.specs.Tests.{picks}
use Rattle.rules.proofs.Listed.{filled_so}
use Rattle.ground.specs.Listed.{Written}

-- the exit of a `?`, where the callee's refusal is known
pub refused : {T : Type 0} (r : Result T Refusal) (c d : Refusal) → IsErrAnd r (λ y. y ≡ c) → c ≡ d → r ≡ Err d
refused (Ok x) c d p q = absurd p
refused (Err y) c d p q = ap Err (p ∙ q)

module _ (Applies : Refusal → Type 0) (P : ℕ → Type 0) (f : ℕ → Bool) (n : ℕ) (a : Listing P (picks f n)) where
  pub told : (old new : List ℕ) (r : Result ℕ Refusal) → length new ≡ length old
      → (length old < length (picks f n) → First Applies ListTooShort) → (length (picks f n) ≤ length old → NoCause Applies)
      → Written f n old r new → TellsList Applies P old r new
  told old new (Ok m) e short fits w =
      let q = w.0 in
      let l = w.1 in
      (fits (omega arith), filled_so P (picks f n) old new m a w.0 w.1 w.2 w.3)
  told old new (Err c) e short fits w = (subst (First Applies) (sym w.0) (short w.1), w.2)
