-- What carry answers, and what it leaves of the labels xs and the marks ms that are handed in.
use Rattle.std.specs.Prelude.{◌≡◌, ℕ, ◌<◌, List, map, length, Ok, Err, Result, slice_index}
use Rattle.refusal.specs.declared.Refusal.{Refusal}
use Rattle.refusal.specs.declared.Refusal.TheVariants.{ListTooShort, NoLabelsAgree}
use Rattle.refusal.specs.Causes.{First, NoCause}
use Rattle.carry.specs.Kinds.{Kind}
use Rattle.carry.specs.Webs.{Web}
use Rattle.carry.specs.Agreement.{NoneAgree, Agreeing}
use Rattle.carry.specs.Lists.{Beyond, Cleared}

-- what carry may refuse
pub data CarryCause {M : Type 0} (w : Web) (k : Kind) (meaning : M → ℕ) (xs : List M) (ms : List ℕ) : Refusal → Type 0 where
  few_labels : length xs < w.items → CarryCause w k meaning xs ms ListTooShort
  few_marks : length ms < w.items → CarryCause w k meaning xs ms ListTooShort
  none_agree : NoneAgree w k meaning → CarryCause w k meaning xs ms NoLabelsAgree

-- the two lists xs' and ms' after a walk: only the first n places are written, and there the marks are zero
pub record Tidied {M : Type 0} (n : ℕ) (xs : List M) (ms : List ℕ) (xs' : List M) (ms' : List ℕ) : Type 0 where
  pub labels : Beyond n xs xs'
  pub marks : Cleared n ms ms'

-- what a call that said no leaves
pub data Left {M : Type 0} (w : Web) (k : Kind) (meaning : M → ℕ) (xs : List M) (ms : List ℕ) (xs' : List M) (ms' : List ℕ) : Refusal → Type 0 where
  untouched : xs' ≡ xs → ms' ≡ ms → Left w k meaning xs ms xs' ms' ListTooShort
  blank : ((i : ℕ) → i < w.items → slice_index (map meaning xs') i ≡ k.neutral) → Tidied w.items xs ms xs' ms' → Left w k meaning xs ms xs' ms' NoLabelsAgree

abbrev pub Carried : {M : Type 0} → Web → Kind → (M → ℕ) → List M → List ℕ → List M → List ℕ → Result ℕ Refusal → Type 0
Carried w k meaning xs ms xs' ms' (Ok pieces) = NoCause (CarryCause w k meaning xs ms) × Agreeing w k meaning (map meaning xs') pieces × Tidied w.items xs ms xs' ms'
Carried w k meaning xs ms xs' ms' (Err c) = First (CarryCause w k meaning xs ms) c × Left w k meaning xs ms xs' ms' c
