-- The promise.
use Rattle.std.proofs.Common.{◌≡◌, ℕ, ◌≤◌, List, length, Ok, Err, refl, ap, arith}
use Rattle.refusal.specs.declared.Refusal.{Refusal}
use Rattle.refusal.specs.declared.Refusal.TheVariants.{NoLabelsAgree}
use Rattle.carry.specs.Agreement.{NoneAgree}
use Rattle.carry.specs.Carrying.{CarryCause}
use Rattle.carry.specs.Carrying.CarryCause.{few_labels, few_marks, none_agree}
use Rattle.carry.specs.Kinds.{Kind}
use Rattle.carry.specs.Webs.{Web}
use Rattle.rules.specs.Joins.{NoThree}
use Rattle.rules.proofs.Causes.{no_half_cause}
use Rattle.rules.proofs.Opposites.{joined_sym}
use Rattle.rules.proofs.Keeping.{lawful_none}
use Rattle.rules.proofs.Lasting.{orients_exactly, lawful_meant}
use Rattle.mates.proofs.Opposed.{mates_opposed}
use Rattle.journal.specs.declared.calls.Exchange.{Exchange}
use Rattle.journal.specs.States.{Ground, made}
use Rattle.journal.specs.Runs.{Run}
use Rattle.journal.specs.Promise.{OppositesTold, CarryExact, Kept, Promise}
use Rattle.journal.proofs.Feeding.{fed_once}
use Rattle.journal.proofs.Running.{run_fed, run_lawful, fed_oriented}

-- CARRY

none_agrees : {M : Type 0} {w : Web} {k : Kind} {meaning : M → ℕ} {xs : List M} {ms : List ℕ} {c : Refusal} → w.items ≤ length xs → w.items ≤ length ms
    → CarryCause w k meaning xs ms c → (c ≡ NoLabelsAgree) × NoneAgree w k meaning
none_agrees l m (few_labels h) = absurd (omega arith)
none_agrees l m (few_marks h) = absurd (omega arith)
none_agrees l m (none_agree f) = (refl, f)

pub carry_exact : (M : Type 0) → CarryExact M
carry_exact M e xs xs' ms ms' (Ok n) l m c =
    let long = c.2.labels.long in
    let room : e.web.items ≤ length xs' = omega arith in
    record {
      refuses = (λ p. absurd (cc), λ never. absurd (never xs' (room, c.1.agrees)));
      agree = λ _. ((room, c.1.agrees), c.1.grounded);
      only = λ _ ys a i k. c.1.only ys a.0.0 a.0.1 a.1 i k;
    }
carry_exact M e xs xs' ms ms' (Err c) l m h =
    let n = none_agrees l m h.0.applies in
    record {
      refuses = (λ _ ys a. n.1 ys a.0 a.1, λ _. ap Err n.0);
      agree = λ other. absurd (other (ap Err n.0));
      only = λ other. absurd (other (ap Err n.0));
    }

-- OPPOSITES

opposites : (rs : List (List ℕ)) → NoThree rs → OppositesTold rs
opposites rs three = record {
  one = λ h o t. (t.1, λ k j. three h k o j t.1);
  back = λ h o t. (no_half_cause rs o t.1.there, joined_sym rs h o t.1);
  none = λ h l. (λ t. t.1.1, λ alone. (no_half_cause rs h l, (l, alone)));
  no_three = three;
}

-- AFTER EVERY LIST OF CALLS

pub kept : {M : Type 0} (n : ℕ) (log : List Exchange) (g : Ground) → Run M (made n) log g → Kept n log g
kept n log g r =
    let f = run_fed r in
    let w = run_lawful n log r in
    record {
      plain = record { fed = f; only = λ cs q e h. fed_once h f e };
      lawful = w;
      opposites = opposites g.plain.list w.no_three;
      turns_meant = lawful_meant g.plain.list w;
      orient_refuses = λ xs xs' ms ms' s q o. orients_exactly g.plain xs ms s q xs' ms' o w;
      all_opposed = λ o. fed_oriented log f lawful_none o;
      mates_opposed = λ o. mates_opposed g.plain.list w (fed_oriented log f lawful_none o);
    }

pub promised : (M : Type 0) → Promise M
promised M = record { after_every_list = kept; carry_exact = carry_exact M; carry_turns_exact = carry_exact _; carry_corners_exact = carry_exact _ }
