-- Which refusal carry gives, and what its answer says of the two lists.
use Rattle.std.proofs.Common.{ℕ, ◌<◌, ◌≤◌, ◌⊎◌, List, map, length, inl, inr, arith}
use Rattle.std.proofs.lemmas.Bool.{cases_lt}
use Rattle.refusal.specs.declared.Refusal.{Refusal}
use Rattle.refusal.specs.declared.Refusal.TheVariants.{ListTooShort, NoLabelsAgree}
use Rattle.refusal.specs.Numbers.{number_of}
use Rattle.refusal.specs.Causes.{First, NoCause}
use Rattle.carry.specs.Kinds.{Kind}
use Rattle.carry.specs.Webs.{Web}
use Rattle.carry.specs.Agreement.{Agrees, NoneAgree}
use Rattle.carry.specs.Carrying.{CarryCause, few_labels, few_marks, none_agree}

module _ {M : Type 0} {w : Web} {k : Kind} {meaning : M → ℕ} {xs : List M} {ms : List ℕ} where
  low : (d : Refusal) → CarryCause w k meaning xs ms d → 3 ≤ number_of d
  low _ (few_labels _) = omega arith
  low _ (few_marks _) = omega arith
  low _ (none_agree _) = omega arith

  pub too_short : (length xs < w.items) ⊎ (length ms < w.items) → First (CarryCause w k meaning xs ms) ListTooShort
  too_short short = record {
    applies = elim short [ inl l ↦ few_labels l | inr l ↦ few_marks l ];
    none_before = λ d less c. let z = low d c in omega arith;
  }

  pub no_cause : w.items ≤ length xs → w.items ≤ length ms → (ys : List M) → w.items ≤ length ys → Agrees w k (map meaning ys) → NoCause (CarryCause w k meaning xs ms)
  no_cause labels marks ys room a _ (few_labels l) = omega arith
  no_cause labels marks ys room a _ (few_marks l) = omega arith
  no_cause labels marks ys room a _ (none_agree n) = n ys room a

  never_before : w.items ≤ length xs → w.items ≤ length ms → (d : Refusal) → number_of d < 15 → CarryCause w k meaning xs ms d → ⊥
  never_before labels marks _ less (few_labels l) = omega arith
  never_before labels marks _ less (few_marks l) = omega arith
  never_before labels marks _ less (none_agree n) = omega arith

  pub none_agrees : w.items ≤ length xs → w.items ≤ length ms → NoneAgree w k meaning → First (CarryCause w k meaning xs ms) NoLabelsAgree
  none_agrees labels marks n = record { applies = none_agree n; none_before = never_before labels marks }

  -- where no cause applies, and where no labels agree is the first that does, the lists are long enough
  pub enough_labels : (CarryCause w k meaning xs ms ListTooShort → ⊥) → w.items ≤ length xs
  enough_labels not = elim (cases_lt (length xs) w.items) [ inl l ↦ absurd (not (few_labels l)) | inr l ↦ l ]

  pub enough_marks : (CarryCause w k meaning xs ms ListTooShort → ⊥) → w.items ≤ length ms
  enough_marks not = elim (cases_lt (length ms) w.items) [ inl l ↦ absurd (not (few_marks l)) | inr l ↦ l ]
