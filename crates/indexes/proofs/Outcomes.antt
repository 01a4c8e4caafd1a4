-- What making an index comes to, once its entries are gathered and handed over.
use Rattle.std.proofs.Common.{ℕ, ◌<◌, ◌≤◌, List, [], length, Ok, Err, Result, sym, ap, ◌∙◌, subst, arith}
use Rattle.refusal.specs.declared.Refusal.{Refusal}
use Rattle.refusal.specs.declared.Refusal.TheVariants.{ListTooShort}
use Rattle.refusal.specs.Numbers.{number_of}
use Rattle.refusal.specs.Causes.{First, NoCause}
use Rattle.index.specs.declared.entry.Entry.{Entry}
use Rattle.index.specs.Held.{Held}
use Rattle.indexes.specs.Lists.{IndexCause, Makes}
use Rattle.indexes.specs.Lists.IndexCause.{short}
use Rattle.indexes.specs.Gathered.{HandedOver}

module _ {K : Type 0} (Right : List (Entry K) → Type 0) (no_longer : (es fs : List (Entry K)) → Right es → Right fs → length es ≤ length fs) where
  none_earlier : (n : ℕ) (d : Refusal) → number_of d < number_of ListTooShort → IndexCause Right n d → ⊥
  none_earlier n d l (short r m) = omega arith

  no_cause : (n : ℕ) (es : List (Entry K)) → Right es → length es ≤ n → NoCause (IndexCause Right n)
  no_cause n es r l c (short {es = fs} q m) = omega (arith, no_longer fs es q r)

  pub makes : (es places : List (Entry K)) (r : Result ℕ Refusal) (h : Held K) → Right es → HandedOver es (record { entries = []; free = places }) r h → Makes Right places r h
  makes es places (Ok n) h right o =
      let a = o.0 in let b = o.1 in (
        no_cause (length places) es right (omega arith),
        (subst (λ (z : Held K). Right z.entries) (sym o.2) right, a ∙ ap (λ (z : Held K). length z.entries) (sym o.2), ap (λ (z : Held K). z.free) o.2),
      )
  makes es places (Err c) h right o = (
    subst (First (IndexCause Right (length places))) (sym o.0) (record { applies = short right o.1; none_before = none_earlier (length places) }),
    o.2,
  )
