-- The corner net of rows: where the corners of two joined cells are sent, and that the net that computes is one.
use Rattle.std.proofs.Common.{◌≡◌, ℕ, ◌+◌, ◌*◌, ◌/◌, ◌%◌, ◌<◌, true, not, eqb, ltb, List, [], length, get_or, Some, None, Option, sym, refl, ap, ◌∙◌, subst, ⊎_elim, arith}
use Rattle.std.proofs.lemmas.Bool.{eq-eqb, ne_eqb, cases_eq, cases_lt, cond-true, cond-false, and_from, not_from_false, lt-ltb}
use Rattle.carry.specs.declared.net.Place.{Place}
use Rattle.carry.specs.declared.corner.Corner.{Corner}
use Rattle.carry.specs.Digits.{different, number, digit}
use Rattle.carry.specs.Corners.{corner_meaning}
use Rattle.carry.specs.FourDigits.{low, own_digits, numbers, one_at}
use Rattle.rules.specs.Rows.{corner, vertices, Repeated}
use Rattle.rules.specs.Joins.{Joined, NoThree}
use Rattle.rules.specs.Nets.{JoinedSides, CornerStep, CornerWeb, AllDiffer}
use Rattle.rules.specs.Tests.{on}
use Rattle.rules.specs.NetTests.{partner, stepped, cell_joins, cell_steps, corner_at, sent, label, crossing, corner_web}
use Rattle.rules.proofs.Corners.{by_four, test_at, on_other}
use Rattle.rules.proofs.Opposites.{joined_faces, opposite_joined, joined_opposite, cell_web_is}
use Rattle.rules.proofs.Webbed.{partner_from, steps_in, placed_none}

-- THE CORNER AT A VERTEX

pub corner_0 : (x : List ℕ) (v : ℕ) → corner x 0 ≡ v → corner_at x v ≡ 0
unfolding corner_at
corner_0 x v e = cond-true (eqb (corner x 0) v) _ _ (eq-eqb _ _ e)

pub corner_1 : (x : List ℕ) (v : ℕ) → (corner x 0 ≡ v → ⊥) → corner x 1 ≡ v → corner_at x v ≡ 1
unfolding corner_at
corner_1 x v a e = cond-false (eqb (corner x 0) v) _ _ (ne_eqb _ _ a) ∙ cond-true (eqb (corner x 1) v) _ _ (eq-eqb _ _ e)

pub corner_2 : (x : List ℕ) (v : ℕ) → (corner x 0 ≡ v → ⊥) → (corner x 1 ≡ v → ⊥) → corner x 2 ≡ v → corner_at x v ≡ 2
unfolding corner_at
corner_2 x v a b e =
    cond-false (eqb (corner x 0) v) _ _ (ne_eqb _ _ a) ∙ cond-false (eqb (corner x 1) v) _ _ (ne_eqb _ _ b) ∙ cond-true (eqb (corner x 2) v) _ _ (eq-eqb _ _ e)

pub corner_3 : (x : List ℕ) (v : ℕ) → (corner x 0 ≡ v → ⊥) → (corner x 1 ≡ v → ⊥) → (corner x 2 ≡ v → ⊥) → corner_at x v ≡ 3
unfolding corner_at
corner_3 x v a b c =
    cond-false (eqb (corner x 0) v) _ _ (ne_eqb _ _ a) ∙ cond-false (eqb (corner x 1) v) _ _ (ne_eqb _ _ b) ∙ cond-false (eqb (corner x 2) v) _ _ (ne_eqb _ _ c)

-- the corners of x differ
abbrev pub Distinct : List ℕ → Type 0
Distinct x = (a b : ℕ) → a < 4 → b < 4 → corner x a ≡ corner x b → a ≡ b

pub distinct : (x : List ℕ) → (Repeated x → ⊥) → Distinct x
distinct x d a b ha hb e =
    ⊎_elim (λ q. q)
    (λ n. ⊎_elim (λ q. absurd (d (a, b, q, hb, e))) (λ q. absurd (d (b, a, omega arith, ha, sym e))) (cases_lt a b))
    (cases_eq a b)

corner_is : (x : List ℕ) → Distinct x → (v m : ℕ) → m < 4 → corner x m ≡ v → corner_at x v ≡ m
corner_is x d v m l e =
    let no : (k : ℕ) → k < 4 → (k ≡ m → ⊥) → corner x k ≡ v → ⊥ = λ k h n q. n (d k m h l (q ∙ sym e)) in
    ⊎_elim (λ z. corner_0 x v (ap (corner x) (sym z) ∙ e) ∙ sym z)
    (λ n0. ⊎_elim (λ z. corner_1 x v (no 0 (omega arith) (λ q. n0 (sym q))) (ap (corner x) (sym z) ∙ e) ∙ sym z)
    (λ n1. ⊎_elim (λ z. corner_2 x v (no 0 (omega arith) (λ q. n0 (sym q))) (no 1 (omega arith) (λ q. n1 (sym q))) (ap (corner x) (sym z) ∙ e) ∙ sym z)
    (λ n2. corner_3 x v (no 0 (omega arith) (λ q. n0 (sym q))) (no 1 (omega arith) (λ q. n1 (sym q))) (no 2 (omega arith) (λ q. n2 (sym q))) ∙ omega arith)
    (cases_eq m 2)) (cases_eq m 1)) (cases_eq m 0)

-- WHERE A CORNER IS SENT

pub sent_entered : (x : List ℕ) (i : ℕ) (y : List ℕ) (j k : ℕ) → k ≡ j → sent x i y j k ≡ i
unfolding sent
sent_entered x i y j k e = cond-true (eqb k j) _ _ (eq-eqb k j e)

pub sent_other : (x : List ℕ) (i : ℕ) (y : List ℕ) (j k : ℕ) → (k ≡ j → ⊥) → sent x i y j k ≡ corner_at x (corner y k)
unfolding sent
sent_other x i y j k e = cond-false (eqb k j) _ _ (ne_eqb k j e)

-- only the first four vertices count
pub label_vertices : (x y : List ℕ) (i j : ℕ) → label (sent (vertices x) i (vertices y) j) ≡ label (sent x i y j)
unfolding sent corner_at
label_vertices x y i j = refl

-- half-face i of x and half-face j of y have the same vertices
module _ (x y : List ℕ) (i j : ℕ) (hi : i < 4) (dx : Distinct x) (dy : Distinct y) (s : (v : ℕ) → on x i v ≡ on y j v) where
  other : (k : ℕ) → k < 4 → (k ≡ j → ⊥) → (sent x i y j k < 4) × (sent x i y j k ≡ i → ⊥) × (corner x (sent x i y j k) ≡ corner y k)
  other k l n =
      let v = corner y k in
      let m = test_at x i v (s v ∙ on_other y j k l (λ e. n (sym e))) in
      let z : sent x i y j k ≡ m.0 = sent_other x i y j k n ∙ corner_is x dx v m.0 m.1 (sym m.3) in
      let lt = m.1 in
      (omega arith, (λ q. m.2 (sym z ∙ q)), ap (corner x) z ∙ sym m.3)

  sent_in : (k : ℕ) → k < 4 → sent x i y j k < 4
  sent_in k l = ⊎_elim (λ e. let z = sent_entered x i y j k e in omega arith) (λ n. (other k l n).0) (cases_eq k j)

  sent_apart : (k l : ℕ) → k < 4 → l < 4 → (k ≡ l → ⊥) → sent x i y j k ≡ sent x i y j l → ⊥
  sent_apart k l hk hl ne q =
      ⊎_elim
      (λ e. (other l hl (λ z. ne (e ∙ sym z))).1 (sym q ∙ sent_entered x i y j k e))
      (λ n. ⊎_elim
      (λ e. (other k hk n).1 (q ∙ sent_entered x i y j l e))
      (λ m. ne (dy k l hk hl (sym (other k hk n).2 ∙ ap (corner x) q ∙ (other l hl m).2)))
      (cases_eq l j))
      (cases_eq k j)

all_different : (f : ℕ → ℕ) → ((k : ℕ) → k < 4 → f k < 4) → ((k l : ℕ) → k < 4 → l < 4 → (k ≡ l → ⊥) → f k ≡ f l → ⊥) → different (f 0) (f 1) (f 2) (f 3) ≡ true
unfolding different
all_different f low ne =
    let lo : (k : ℕ) → k < 4 → ltb (f k) 4 ≡ true = λ k l. lt-ltb (f k) 4 (low k l) in
    let ap2 : (k l : ℕ) → k < 4 → l < 4 → (k ≡ l → ⊥) → not (eqb (f k) (f l)) ≡ true = λ k l a b n. not_from_false (eqb (f k) (f l)) (ne_eqb (f k) (f l) (ne k l a b n)) in
    and_from _ _
    (and_from _ _ (lo 0 (omega arith)) (and_from _ _ (lo 1 (omega arith)) (and_from _ _ (lo 2 (omega arith)) (lo 3 (omega arith)))))
    (and_from _ _ (ap2 0 1 (omega arith) (omega arith) (omega arith)) (and_from _ _ (ap2 0 2 (omega arith) (omega arith) (omega arith)) (and_from _ _ (ap2 0 3 (omega arith) (omega arith) (omega arith))
    (and_from _ _ (ap2 1 2 (omega arith) (omega arith) (omega arith)) (and_from _ _ (ap2 1 3 (omega arith) (omega arith) (omega arith)) (ap2 2 3 (omega arith) (omega arith) (omega arith)))))))

-- the digits of a step
abbrev pub Lawful : (ℕ → ℕ) → Type 0
Lawful f = different (f 0) (f 1) (f 2) (f 3) ≡ true

pub lawful_vertices : (x y : List ℕ) (i j : ℕ) → Lawful (sent x i y j) → Lawful (sent (vertices x) i (vertices y) j)
unfolding sent corner_at
lawful_vertices x y i j e = e

digit_of : (f : ℕ → ℕ) → Lawful f → (k : ℕ) → k < 4 → digit (label f) k ≡ f k
digit_of f e = let o = own_digits (f 0) (f 1) (f 2) (f 3) e in by_four (λ (k : ℕ). digit (label f) k ≡ f k) o.0 o.1 o.2 o.3

-- THE STEP OVER A JOIN

module _ (rs : List (List ℕ)) (d : AllDiffer rs) (h g : ℕ) (q : Joined rs h g) where
  l : h < 4 * length rs
  l = q.half

  n : g < 4 * length rs
  n = q.there

  dx : Distinct (get_or rs (h / 4) [])
  dx = distinct (get_or rs (h / 4) []) (d (h / 4) (omega arith))

  dy : Distinct (get_or rs (g / 4) [])
  dy = distinct (get_or rs (g / 4) []) (d (g / 4) (omega arith))

  pub crossing_lawful : Lawful (sent (get_or rs (h / 4) []) (h % 4) (get_or rs (g / 4) []) (g % 4))
  crossing_lawful =
      all_different (sent (get_or rs (h / 4) []) (h % 4) (get_or rs (g / 4) []) (g % 4))
      (sent_in (get_or rs (h / 4) []) (get_or rs (g / 4) []) (h % 4) (g % 4) (omega arith) dx dy (joined_faces rs h g q))
      (sent_apart (get_or rs (h / 4) []) (get_or rs (g / 4) []) (h % 4) (g % 4) (omega arith) dx dy (joined_faces rs h g q))

  pub crossing_step : CornerStep (get_or rs (h / 4) []) (h % 4) (get_or rs (g / 4) []) (g % 4) (crossing rs h g)
  unfolding crossing
  crossing_step =
      let f = sent (get_or rs (h / 4) []) (h % 4) (get_or rs (g / 4) []) (g % 4) in
      record {
        label = (record { a = f 0; b = f 1; c = f 2; d = f 3; lawful = crossing_lawful }, refl);
        entered = digit_of f crossing_lawful (g % 4) (omega arith) ∙ sent_entered (get_or rs (h / 4) []) (h % 4) (get_or rs (g / 4) []) (g % 4) (g % 4) refl;
        others = λ k lk ne. ap (corner (get_or rs (h / 4) [])) (digit_of f crossing_lawful k lk)
            ∙ (other (get_or rs (h / 4) []) (get_or rs (g / 4) []) (h % 4) (g % 4) (omega arith) dx dy (joined_faces rs h g q) k lk ne).2;
      }

-- the same by cells and sides
pub crossing_sides : (rs : List (List ℕ)) → AllDiffer rs → (i s : ℕ) (p : Place) → JoinedSides rs i s p
    → CornerStep (get_or rs i []) s (get_or rs p.item []) p.side (crossing rs (4 * i + s) (4 * p.item + p.side))
crossing_sides rs d i s p j =
    let a = j.side in
    let b = j.entered in
    let m = crossing rs (4 * i + s) (4 * p.item + p.side) in
    let e1 : (4 * i + s) / 4 ≡ i = omega arith in
    let e2 : (4 * i + s) % 4 ≡ s = omega arith in
    let e3 : (4 * p.item + p.side) / 4 ≡ p.item = omega arith in
    let e4 : (4 * p.item + p.side) % 4 ≡ p.side = omega arith in
    subst (λ (k : ℕ). CornerStep (get_or rs i []) s (get_or rs p.item []) k m) e4
    (subst (λ (k : ℕ). CornerStep (get_or rs i []) s (get_or rs k []) ((4 * p.item + p.side) % 4) m) e3
    (subst (λ (k : ℕ). CornerStep (get_or rs i []) k (get_or rs ((4 * p.item + p.side) / 4) []) ((4 * p.item + p.side) % 4) m) e2
    (subst (λ (k : ℕ). CornerStep (get_or rs k []) ((4 * i + s) % 4) (get_or rs ((4 * p.item + p.side) / 4) []) ((4 * p.item + p.side) % 4) m) e1
    (crossing_step rs d (4 * i + s) (4 * p.item + p.side) j.joined))))

-- there is one such step
digits_low : (m : ℕ) → (v : Corner) × (corner_meaning v ≡ m) → (k : ℕ) → k < 4 → digit m k < 4
digits_low m v k l = subst (λ (z : ℕ). digit z k < 4) v.1 ((one_at v.0.a v.0.b v.0.c v.0.d v.0.lawful).digits k l)

by_digits : (v w : Corner) → ((k : ℕ) → k < 4 → digit (corner_meaning v) k ≡ digit (corner_meaning w) k) → corner_meaning v ≡ corner_meaning w
by_digits v w f =
    let a = own_digits v.a v.b v.c v.d v.lawful in
    let b = own_digits w.a w.b w.c w.d w.lawful in
    numbers v.a v.b v.c v.d w.a w.b w.c w.d
    (sym a.0 ∙ f 0 (omega arith) ∙ b.0) (sym a.1 ∙ f 1 (omega arith) ∙ b.1) (sym a.2 ∙ f 2 (omega arith) ∙ b.2) (sym a.3 ∙ f 3 (omega arith) ∙ b.3)

pub step_only : (x y : List ℕ) (i j m m' : ℕ) → Distinct x → CornerStep x i y j m → CornerStep x i y j m' → m ≡ m'
step_only x y i j m m' dx s t =
    let same : (k : ℕ) → k < 4 → digit m k ≡ digit m' k = λ k l.
    ⊎_elim
    (λ e. ap (digit m) e ∙ s.entered ∙ sym (ap (digit m') e ∙ t.entered))
    (λ n. dx (digit m k) (digit m' k) (digits_low m s.label k l) (digits_low m' t.label k l) (s.others k l n ∙ sym (t.others k l n)))
    (cases_eq k j) in
    sym s.label.1
    ∙ by_digits s.label.0 t.label.0 (λ k l. ap (λ (z : ℕ). digit z k) s.label.1 ∙ same k l ∙ ap (λ (z : ℕ). digit z k) (sym t.label.1))
    ∙ t.label.1

-- THE NET THAT COMPUTES

plain : (v : Corner) × (corner_meaning v ≡ 123)
unfolding different
plain = (record { a = 0; b = 1; c = 2; d = 3; lawful = refl }, refl)

still_none : (rs : List (List ℕ)) (i s : ℕ) → cell_joins rs i s ≡ None → cell_steps rs 123 (crossing rs) i s ≡ 123
unfolding cell_joins cell_steps
still_none rs i s e = ap (stepped 123 (crossing rs) (4 * i + s)) (placed_none (partner rs i s) e)

module _ (rs : List (List ℕ)) (d : AllDiffer rs) where
  step_label : (i s : ℕ) (o : Option ℕ) → partner rs i s ≡ o → (v : Corner) × (corner_meaning v ≡ stepped 123 (crossing rs) (4 * i + s) o)
  step_label i s None e = plain
  step_label i s (Some g) e =
      let r = partner_from rs i s g e in
      let a = r.0 in
      let b = r.1 in
      (crossing_step rs d (4 * i + s) g (opposite_joined rs (4 * i + s) g (omega arith) r.2)).label

  -- each step is a corner label
  pub steps_corner : (i s : ℕ) → (v : Corner) × (corner_meaning v ≡ cell_steps rs 123 (crossing rs) i s)
  unfolding cell_steps
  steps_corner i s = step_label i s (partner rs i s) refl

  module _ (n : NoThree rs) where
    step_at_lem : (i s : ℕ) (p : Place) → JoinedSides rs i s p → cell_steps rs 123 (crossing rs) i s ≡ crossing rs (4 * i + s) (4 * p.item + p.side)
    step_at_lem i s p j = steps_in rs 123 (crossing rs) i s j.item j.side ∙ ap (stepped 123 (crossing rs) (4 * i + s)) (joined_opposite rs n (4 * i + s) (4 * p.item + p.side) j.joined)

    pub corner_web_is : CornerWeb rs (corner_web rs)
    corner_web_is = record {
      cells = cell_web_is rs n 123 (crossing rs);
      across = λ i s p j. subst (CornerStep (get_or rs i []) s (get_or rs p.item []) p.side) (sym (step_at_lem i s p j)) (crossing_sides rs d i s p j);
      still = still_none rs;
    }

-- THE STEP FROM CORNERS THAT WERE READ

pub partner_joined : (rs : List (List ℕ)) (i s g : ℕ) → partner rs i s ≡ Some g → (i < length rs) × (s < 4) × Joined rs (4 * i + s) g
partner_joined rs i s g e =
    let r = partner_from rs i s g e in
    let a = r.0 in
    let b = r.1 in
    (a, b, opposite_joined rs (4 * i + s) g (omega arith) r.2)

module _ (rs : List (List ℕ)) (i s g : ℕ) (e : partner rs i s ≡ Some g) (here there : List ℕ) (eh : here ≡ vertices (get_or rs i [])) (et : there ≡ vertices (get_or rs (g / 4) [])) where
  pub across_lawful : AllDiffer rs → Lawful (sent here s there (g % 4))
  across_lawful d =
      let j = partner_joined rs i s g e in
      let k = j.1 in
      let y = get_or rs (g / 4) [] in
      let a : (4 * i + s) / 4 ≡ i = omega arith in
      let b : (4 * i + s) % 4 ≡ s = omega arith in
      let l1 = subst (λ (m : ℕ). Lawful (sent (get_or rs ((4 * i + s) / 4) []) m y (g % 4))) b (crossing_lawful rs d (4 * i + s) g j.2) in
      let l2 = subst (λ (m : ℕ). Lawful (sent (get_or rs m []) s y (g % 4))) a l1 in
      subst (λ (z : List ℕ). Lawful (sent here s z (g % 4))) (sym et)
      (subst (λ (z : List ℕ). Lawful (sent z s (vertices y) (g % 4))) (sym eh) (lawful_vertices (get_or rs i []) y s (g % 4) l2))

  pub across_step : label (sent here s there (g % 4)) ≡ cell_steps rs 123 (crossing rs) i s
  unfolding crossing cell_steps
  across_step =
      let j = partner_joined rs i s g e in
      let k = j.1 in
      let y = get_or rs (g / 4) [] in
      let a : (4 * i + s) / 4 ≡ i = omega arith in
      let b : (4 * i + s) % 4 ≡ s = omega arith in
      ap (λ (z : List ℕ). label (sent z s there (g % 4))) eh
      ∙ ap (λ (z : List ℕ). label (sent (vertices (get_or rs i [])) s z (g % 4))) et
      ∙ label_vertices (get_or rs i []) y s (g % 4)
      ∙ ap (λ (m : ℕ). label (sent (get_or rs m []) s y (g % 4))) (sym a)
      ∙ ap (λ (m : ℕ). label (sent (get_or rs ((4 * i + s) / 4) []) m y (g % 4))) (sym b)
      ∙ ap (stepped 123 (crossing rs) (4 * i + s)) (sym e)

pub across_none : (rs : List (List ℕ)) (i s : ℕ) → partner rs i s ≡ None → 123 ≡ cell_steps rs 123 (crossing rs) i s
unfolding cell_steps
across_none rs i s e = ap (stepped 123 (crossing rs) (4 * i + s)) (sym e)

-- the four digits that were found one by one
pub by_places : (f : ℕ → ℕ) (a b c d : ℕ) → a ≡ f 0 → b ≡ f 1 → c ≡ f 2 → d ≡ f 3 → number a b c d ≡ label f
by_places f a b c d p q r s = numbers a b c d (f 0) (f 1) (f 2) (f 3) p q r s

pub different_places : (f : ℕ → ℕ) (a b c d : ℕ) → a ≡ f 0 → b ≡ f 1 → c ≡ f 2 → d ≡ f 3 → Lawful f → different a b c d ≡ true
different_places f a b c d p q r s e =
    ap (λ (z : ℕ). different z b c d) p ∙ ap (λ (z : ℕ). different (f 0) z c d) q ∙ ap (λ (z : ℕ). different (f 0) (f 1) z d) r ∙ ap (λ (z : ℕ). different (f 0) (f 1) (f 2) z) s ∙ e
