-- What a list is after a call was lent a part of it.
use Rattle.std.proofs.Common.{◌≡◌, ℕ, ◌-◌, List, length, Result, sym, ◌∙◌, subst, arith}
use borrow.Rule.Slice.PartMut.{mid_of, put_mid, same_len_mid, mid_len, take_put, drop_put}
use Rattle.std.proofs.lemmas.Slice.{between-put_mid}
use Rattle.std.specs.declared.ops.Range.{Range}
use Rattle.refusal.specs.declared.Refusal.{Refusal}
use Rattle.carry.specs.Kinds.{Kind}
use Rattle.carry.specs.Webs.{Web}
use Rattle.carry.specs.Carrying.{Carried}
use Rattle.carry.specs.declared.turn.Turn.{Turn}
use Rattle.rules.specs.PlainList.{Plain}
use Rattle.rules.specs.Orients.{Orients}
use Rattle.journal.specs.declared.calls.Part.{Part}
use Rattle.journal.specs.declared.calls.Change.TheVariants.{Orient}
use Rattle.journal.specs.declared.calls.Answer.TheVariants.{Number}
use Rattle.journal.specs.Answers.{Came, replied}
use Rattle.journal.specs.Parts.{part_of, Within, Around}
use Rattle.journal.specs.Steps.{Changed, Carries, Lists}
use Rattle.journal.specs.Steps.Changed.{orients}

-- what is lent at a range, and the list with ys in its place
abbrev pub lent : {A : Type 0} → Range ℕ → List A → List A
lent r xs = mid_of r.start (r.end - r.start) xs

abbrev pub back : {A : Type 0} → Range ℕ → List A → List A → List A
back r xs ys = put_mid r.start (r.end - r.start) xs ys

-- the part of xs was lent at the range, and ys came back in its place
pub record Lent {A : Type 0} (p : Part) (r : Range ℕ) (xs ys : List A) : Type 0 where
  pub within : Within p (length xs) r
  pub same : length ys ≡ length (lent r xs)

module _ {A : Type 0} (p : Part) (r : Range ℕ) (xs ys : List A) (l : Lent p r xs ys) where
  size : length ys ≡ r.end - r.start
  size = let w = l.within in l.same ∙ mid_len r.start r.end xs (omega arith)

  pub around : Around p xs (back r xs ys)
  around =
      let s = l.within.starts in
      let e = l.within.ends in
      let f = l.within.fits in
      record {
        long = same_len_mid r.start (r.end - r.start) xs ys l.same;
        before = rw (← s) (take_put r.start (r.end - r.start) xs ys (omega arith));
        after = rw (← e) (drop_put r.start r.end xs ys (omega arith) (omega arith) size);
      }

  pub part_before : part_of p xs ≡ lent r xs
  part_before =
      let s = l.within.starts in
      let e = l.within.ends in
      let n : p.places ≡ r.end - r.start = omega arith in
      rw (n, ← s)

  pub part_after : part_of p (back r xs ys) ≡ ys
  part_after =
      let s = l.within.starts in
      let e = l.within.ends in
      let n : p.places ≡ r.end - r.start = omega arith in
      rw (n, ← s) (between-put_mid r.start (r.end - r.start) xs ys r.end (omega arith) size)

-- a call that lists numbers
pub listed : (Tells : List ℕ → Result ℕ Refusal → List ℕ → Type 0) (p : Part) (r : Range ℕ) (xs ys : List ℕ) (res : Result ℕ Refusal) (a : Came) → Lent p r xs ys
    → a ≡ replied Number res → Tells (lent r xs) res ys → Lists Tells p xs a (back r xs ys)
listed Tells p r xs ys res a l e t = record {
  result = res;
  answer = e;
  tells = subst (λ (z : List ℕ). Tells z res (part_of p (back r xs ys))) (sym (part_before p r xs ys l))
      (subst (λ (z : List ℕ). Tells (lent r xs) res z) (sym (part_after p r xs ys l)) t);
  rest = around p r xs ys l;
}

-- a call that is handed labels and marks
module _ {M : Type 0} (k m : Part) (r s : Range ℕ) (xs ys : List M) (ms ns : List ℕ) (l : Lent k r xs ys) (n : Lent m s ms ns) where
  pub in_parts : (P : List M → List ℕ → List M → List ℕ → Type 0) → P (lent r xs) (lent s ms) ys ns → P (part_of k xs) (part_of m ms) (part_of k (back r xs ys)) (part_of m (back s ms ns))
  in_parts P p =
      subst (λ (z : List M). P z (part_of m ms) (part_of k (back r xs ys)) (part_of m (back s ms ns))) (sym (part_before k r xs ys l))
      (subst (λ (z : List ℕ). P (lent r xs) z (part_of k (back r xs ys)) (part_of m (back s ms ns))) (sym (part_before m s ms ns n))
      (subst (λ (z : List M). P (lent r xs) (lent s ms) z (part_of m (back s ms ns))) (sym (part_after k r xs ys l))
      (subst (λ (z : List ℕ). P (lent r xs) (lent s ms) ys z) (sym (part_after m s ms ns n)) p)))

  pub carries : (w : Web) (kind : Kind) (meaning : M → ℕ) (res : Result ℕ Refusal) (a : Came) → a ≡ replied Number res → Carried w kind meaning (lent r xs) (lent s ms) ys ns res
      → Carries w kind meaning k m xs ms a (back r xs ys) (back s ms ns)
  carries w kind meaning res a e h = record {
    result = res;
    answer = e;
    carried = in_parts (λ x y x' y'. Carried w kind meaning x y x' y' res) h;
    labels = around k r xs ys l;
    marks = around m s ms ns n;
  }

pub oriented : (p q : Plain) (k m : Part) (r s : Range ℕ) (xs ys : List Turn) (ms ns : List ℕ) (res : Result ℕ Refusal) (a : Came) → Lent k r xs ys → Lent m s ms ns
    → a ≡ replied Number res → Orients p (lent r xs) (lent s ms) res q ys ns → Changed p q (Orient k m) xs ms a (back r xs ys) (back s ms ns)
oriented p q k m r s xs ys ms ns res a l n e o =
    subst (λ (z : Came). Changed p q (Orient k m) xs ms z (back r xs ys) (back s ms ns)) (sym e)
    (orients res (in_parts k m r s xs ys ms ns l n (λ x y x' y'. Orients p x y res q x' y') o) (around k r xs ys l) (around m s ms ns n))
