-- What the calls on the plain list keep: lawful rows stay lawful whatever is answered, joined triangles that read opposite
-- ways still do after a lift, and a refused call leaves the list. Then what orient and the turn net mean for lawful rows.
use Rattle.std.proofs.Common.{◌≡◌, ℕ, ◌<◌, List, length, Ok, Err, Result, sym, subst, ⊎_elim}
use Rattle.std.proofs.lemmas.Bool.{cases_lt}
use Rattle.refusal.specs.declared.Refusal.{Refusal}
use Rattle.refusal.specs.declared.Refusal.TheVariants.{NoSuchNumber}
use Rattle.refusal.specs.Causes.{NoCause, Outcome}
use Rattle.carry.specs.declared.turn.Turn.{Turn}
use Rattle.rules.specs.Joins.{LawfulRows}
use Rattle.rules.specs.PlainList.{Plain, laid, lifted, turned, LayCause, RowCause, Lays, Lifts, Turns}
use Rattle.rules.specs.PlainList.RowCause.{absent}
use Rattle.rules.specs.Nets.{AllOpposed, TurnsMeant}
use Rattle.rules.specs.Orients.{Orients, RefusedExactly}
use Rattle.rules.proofs.Keeping.{lawful_laid, lawful_lifted, opposed_lifted, lawful_turned, lawful_turned_by}
use Rattle.rules.proofs.Orienting.{refused_exactly, opposed_after}
use Rattle.rules.proofs.TurnNets.{turns_meant}

-- LAY, LIFT, TURN

abbrev Lawful : Plain → Type 0
Lawful p = LawfulRows p.list

-- what holds of p, and of new where no cause applies, holds of what is left
keeps : {A : Type 0} (Applies : Refusal → Type 0) (Right : A → Plain → Type 0) (p new : Plain) → ((a : A) (q : Plain) → Right a q → q ≡ new)
    → (P : Plain → Type 0) → P p → (NoCause Applies → P new) → (r : Result A Refusal) (q : Plain) → Outcome Applies Right p r q → P q
keeps Applies Right p new is P before after (Ok a) q o = subst P (sym (is a q o.1)) (after o.0)
keeps Applies Right p new is P before after (Err c) q o = subst P (sym o.1) before

row_there : (p : Plain) (t : ℕ) → NoCause (RowCause p t) → t < length p.list
row_there p t n = ⊎_elim (λ k. k) (λ k. absurd (n NoSuchNumber (absent k))) (cases_lt t (length p.list))

pub lays_lawful : (p : Plain) (x : List ℕ) (r : Result ℕ Refusal) (q : Plain) → Lays p x r q → LawfulRows p.list → LawfulRows q.list
lays_lawful p x r q o l = keeps (LayCause p x) _ p (laid p x) (λ a z m. m.1) Lawful l (lawful_laid p x l) r q o

pub lifts_lawful : (p : Plain) (t : ℕ) (r : Result (Unit {0}) Refusal) (q : Plain) → Lifts p t r q → LawfulRows p.list → LawfulRows q.list
lifts_lawful p t r q o l = keeps (RowCause p t) _ p (lifted p t) (λ a z m. m) Lawful l (λ n. lawful_lifted p t (row_there p t n) l) r q o

pub turns_lawful : (p : Plain) (t : ℕ) (r : Result (Unit {0}) Refusal) (q : Plain) → Turns p t r q → LawfulRows p.list → LawfulRows q.list
turns_lawful p t r q o l = keeps (RowCause p t) _ p (turned p t) (λ a z m. m) Lawful l (λ n. lawful_turned p t l) r q o

pub lifts_opposed : (p : Plain) (t : ℕ) (r : Result (Unit {0}) Refusal) (q : Plain) → Lifts p t r q → AllOpposed p.list → AllOpposed q.list
lifts_opposed p t r q o a = keeps (RowCause p t) _ p (lifted p t) (λ b z m. m) (λ z. AllOpposed z.list) a (λ n. opposed_lifted p t (row_there p t n) a) r q o

pub lays_refused : (p : Plain) (x : List ℕ) (c : Refusal) (q : Plain) → Lays p x (Err c) q → q ≡ p
lays_refused p x c q o = o.1

pub turns_refused : (p : Plain) (t : ℕ) (c : Refusal) (q : Plain) → Turns p t (Err c) q → q ≡ p
turns_refused p t c q o = o.1

-- ORIENT

module _ (p : Plain) (xs : List Turn) (ms : List ℕ) where
  pub orients_lawful : (r : Result ℕ Refusal) (q : Plain) (xs' : List Turn) (ms' : List ℕ) → Orients p xs ms r q xs' ms' → LawfulRows p.list → LawfulRows q.list
  orients_lawful (Ok n) q xs' ms' o l = subst Lawful (sym o.1.list) (lawful_turned_by xs' p.list l)
  orients_lawful (Err c) q xs' ms' o l = subst Lawful (sym o.1.stands) l

  pub orients_opposed : (n : ℕ) (q : Plain) (xs' : List Turn) (ms' : List ℕ) → Orients p xs ms (Ok n) q xs' ms' → LawfulRows p.list → AllOpposed q.list
  orients_opposed n q xs' ms' o l = opposed_after p xs ms l.differ l.no_three (Ok n) q xs' ms' o

  pub orients_refused : (c : Refusal) (q : Plain) (xs' : List Turn) (ms' : List ℕ) → Orients p xs ms (Err c) q xs' ms' → q ≡ p
  orients_refused c q xs' ms' o = o.1.stands

  pub orients_exactly : (r : Result ℕ Refusal) (q : Plain) (xs' : List Turn) (ms' : List ℕ) → Orients p xs ms r q xs' ms' → LawfulRows p.list → RefusedExactly p xs ms r
  orients_exactly r q xs' ms' o l = refused_exactly p xs ms l.differ l.no_three r q xs' ms' o

pub lawful_meant : (rs : List (List ℕ)) → LawfulRows rs → TurnsMeant rs
lawful_meant rs l = turns_meant rs l.differ l.no_three
