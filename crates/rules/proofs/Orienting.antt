-- From what carry leaves over the turn net to what orient does, and what follows of orient.
use Rattle.std.proofs.Common.{◌≡◌, ℕ, ◌≤◌, List, map, length, take, Ok, Err, Result, sym, refl, ap, ◌∙◌, subst, ⊎_elim, arith}
use Rattle.std.proofs.lemmas.List.{length-take-le}
use Rattle.std.proofs.lemmas.Bool.{cases_lt}
use Rattle.refusal.specs.declared.Refusal.{Refusal}
use Rattle.refusal.specs.declared.Refusal.TheVariants.{ListTooShort, NoLabelsAgree}
use Rattle.refusal.specs.Causes.{First}
use Rattle.carry.specs.declared.turn.Turn.{Turn}
use Rattle.carry.specs.Turns.{turn_meaning, turn_kind}
use Rattle.carry.specs.Carrying.{CarryCause, Carried}
use Rattle.carry.specs.Carrying.CarryCause.{few_labels as carry-few-labels, few_marks as carry-few-marks, none_agree as carry-none-agree}
use Rattle.rules.specs.PlainList.{Plain, changed}
use Rattle.rules.specs.Joins.{NoThree}
use Rattle.rules.specs.Nets.{TurnedMany, turned_by, AllOpposed, NoChoice, AllDiffer, Orientation}
use Rattle.rules.specs.NetTests.{turn_web}
use Rattle.rules.specs.Orients.{OrientCause, Orients, RefusedExactly, OpposedAfter, OrientsOnce}
use Rattle.rules.specs.Orients.OrientCause.{few_labels, few_marks, none_agree}
use Rattle.rules.proofs.Labelled.{turned_take}
use Rattle.rules.proofs.Once.{first_one}
use Rattle.rules.proofs.TurnNets.{turn_web_is, agrees_as, agree_opposed, opposed_agree, one_orientation}

module _ (p : Plain) (n : NoThree p.list) (xs : List Turn) (ms : List ℕ) where
  cause_to : (c : Refusal) → OrientCause p xs ms c → CarryCause (turn_web p.list) turn_kind turn_meaning xs ms c
  cause_to _ (few_labels l) = carry-few-labels l
  cause_to _ (few_marks l) = carry-few-marks l
  cause_to _ (none_agree f) = carry-none-agree (λ ys l a. f ys l (turn_web p.list, turn_web_is p.list n, a))

  cause_from : (c : Refusal) → CarryCause (turn_web p.list) turn_kind turn_meaning xs ms c → OrientCause p xs ms c
  cause_from _ (carry-few-labels l) = few_labels l
  cause_from _ (carry-few-marks l) = few_marks l
  cause_from _ (carry-none-agree f) = none_agree (λ ys l a. f ys l (agrees_as p.list a.0 (turn_web p.list) a.1 (turn_web_is p.list n) turn_kind (map turn_meaning ys) a.2))

  pub oriented : (xs' : List Turn) (ms' : List ℕ) (q : Plain) (pieces m : ℕ) → Carried (turn_web p.list) turn_kind turn_meaning xs ms xs' ms' (Ok pieces)
      → q ≡ changed p (turned_by xs' p.list) → TurnedMany p.list xs' m → Orients p xs ms (Ok m) q xs' ms'
  oriented xs' ms' q pieces m c e k = (
    (λ d a. c.0 d (cause_to d a)),
    record { labels = (turn_web p.list, pieces, turn_web_is p.list n, c.1); lists = c.2; list = e; many = k },
  )

  pub unoriented : (xs' : List Turn) (ms' : List ℕ) (c : Refusal) → Carried (turn_web p.list) turn_kind turn_meaning xs ms xs' ms' (Err c) → Orients p xs ms (Err c) p xs' ms'
  unoriented xs' ms' c r = (
    record { applies = cause_from c r.0.applies; none_before = λ d l a. r.0.none_before d l (cause_to d a) },
    record { stands = refl; web = turn_web p.list; turns = turn_web_is p.list n; left = r.1 },
  )

-- WHAT FOLLOWS

module _ (p : Plain) (xs : List Turn) (ms : List ℕ) where
  long_labels : (OrientCause p xs ms ListTooShort → ⊥) → length p.list ≤ length xs
  long_labels enough = ⊎_elim (λ l. absurd (enough (few_labels l))) (λ l. l) (cases_lt (length xs) (length p.list))

  long_marks : (OrientCause p xs ms ListTooShort → ⊥) → length p.list ≤ length ms
  long_marks enough = ⊎_elim (λ l. absurd (enough (few_marks l))) (λ l. l) (cases_lt (length ms) (length p.list))

  orientation_of : (m : ℕ) (q : Plain) (xs' : List Turn) (ms' : List ℕ) → Orients p xs ms (Ok m) q xs' ms' → Orientation p.list (turned_by xs' p.list) m
  orientation_of m q xs' ms' o = record {
    labels = xs';
    long = subst (λ (k : ℕ). length p.list ≤ k) (sym o.1.lists.labels.long) (long_labels (o.0 ListTooShort));
    agreeing = o.1.labels;
    list = refl;
    many = o.1.many;
  }

  module _ (d : AllDiffer p.list) (n : NoThree p.list) where
    pub opposed_after : (r : Result ℕ Refusal) (q : Plain) (xs' : List Turn) (ms' : List ℕ) → Orients p xs ms r q xs' ms' → OpposedAfter r q
    opposed_after (Ok m) q xs' ms' o =
        let l = o.1.labels in
        subst (λ (z : Plain). AllOpposed z.list) (sym o.1.list) (agree_opposed p.list d n xs' (l.0, l.2, l.3.agrees))
    opposed_after (Err c) q xs' ms' o = tt

    -- no choice works exactly when no labels agree
    no_choice : OrientCause p xs ms NoLabelsAgree → NoChoice p.list
    no_choice (none_agree f) ys e o = f ys (omega arith) (opposed_agree p.list d n ys o)

    none_agrees : NoChoice p.list → OrientCause p xs ms NoLabelsAgree
    none_agrees never = none_agree (λ ys l a.
        never (take (length p.list) ys) (length-take-le (length p.list) ys l)
        (subst AllOpposed (sym (turned_take ys p.list (length p.list) (omega arith))) (agree_opposed p.list d n ys a)))

    is_none : (c : Refusal) → OrientCause p xs ms c → length p.list ≤ length xs → length p.list ≤ length ms → c ≡ NoLabelsAgree
    is_none _ (few_labels k) l m = absurd (omega arith)
    is_none _ (few_marks k) l m = absurd (omega arith)
    is_none _ (none_agree f) l m = refl

    pub refused_exactly : (r : Result ℕ Refusal) (q : Plain) (xs' : List Turn) (ms' : List ℕ) → Orients p xs ms r q xs' ms' → RefusedExactly p xs ms r
    refused_exactly (Ok m) q xs' ms' o = (
      (λ e. absurd (let z : ◌≡◌ {A = ℕ} 0 1 = cc in omega arith)),
      (λ a. absurd (o.0 NoLabelsAgree (none_agrees a.2))),
    )
    refused_exactly (Err c) q xs' ms' o = (
      (λ e. let z : c ≡ NoLabelsAgree = cc in
          let f = subst (First (OrientCause p xs ms)) z o.0 in
          (long_labels (f.none_before ListTooShort (omega arith)), long_marks (f.none_before ListTooShort (omega arith)), no_choice f.applies)),
      (λ a. ap Err (is_none c o.0.applies a.0 a.1)),
    )

-- ORIENT ANSWERS ONCE

-- of the lists handed in only the lengths matter
cause_alike : (p : Plain) (xs ys : List Turn) (ms ns : List ℕ) → length xs ≡ length ys → length ms ≡ length ns → (c : Refusal) → OrientCause p xs ms c → OrientCause p ys ns c
cause_alike p xs ys ms ns labels marks _ (few_labels l) = few_labels (omega arith)
cause_alike p xs ys ms ns labels marks _ (few_marks l) = few_marks (omega arith)
cause_alike p xs ys ms ns labels marks _ (none_agree f) = none_agree f

module _ (p : Plain) (xs ys : List Turn) (ms ns : List ℕ) (labels : length xs ≡ length ys) (marks : length ms ≡ length ns) where
  to : (c : Refusal) → OrientCause p xs ms c → OrientCause p ys ns c
  to = cause_alike p xs ys ms ns labels marks

  from : (c : Refusal) → OrientCause p ys ns c → OrientCause p xs ms c
  from = cause_alike p ys xs ns ms (sym labels) (sym marks)

  pub orients_alike : (r r' : Result ℕ Refusal) (q q' : Plain) (xs' ys' : List Turn) (ms' ns' : List ℕ) → Orients p xs ms r q xs' ms' → Orients p ys ns r' q' ys' ns' → (r ≡ r') × (q ≡ q')
  orients_alike (Ok m) (Ok n) q q' xs' ys' ms' ns' o u =
      let e = one_orientation p.list _ _ m n (orientation_of p xs ms m q xs' ms' o) (orientation_of p ys ns n q' ys' ns' u) in
      (ap Ok e.1, o.1.list ∙ ap (changed p) e.0 ∙ sym u.1.list)
  orients_alike (Ok m) (Err d) q q' xs' ys' ms' ns' o u = absurd (o.0 d (from d u.0.applies))
  orients_alike (Err c) (Ok n) q q' xs' ys' ms' ns' o u = absurd (u.0 c (to c o.0.applies))
  orients_alike (Err c) (Err d) q q' xs' ys' ms' ns' o u =
      let f : First (OrientCause p ys ns) c = record { applies = to c o.0.applies; none_before = λ k l a. o.0.none_before k l (from k a) } in
      (ap Err (first_one (OrientCause p ys ns) c d f u.0), o.1.stands ∙ sym u.1.stands)

pub orients_once : (p : Plain) (xs : List Turn) (ms : List ℕ) (r : Result ℕ Refusal) (q : Plain) (xs' : List Turn) (ms' : List ℕ) → Orients p xs ms r q xs' ms' → OrientsOnce p xs ms r q
orients_once p xs ms r q xs' ms' o r₂ q₂ xs₂ ms₂ o₂ = orients_alike p xs xs ms ms refl refl r₂ r q₂ q xs₂ xs' ms₂ ms' o₂ o
