-- The nets of rows as they compute: what an opposite is, and that each of them is a net.
use Rattle.std.proofs.Common.{◌≡◌, ℕ, zero, suc, ◌+◌, ◌*◌, ◌/◌, ◌%◌, ◌<◌, ◌≤◌, Bool, true, false, cond, not, ◌||◌, eqb, ltb, ◌⊎◌, List, [], length, get_or, Some, None, Option, sym, refl, ap, ◌∙◌, subst, inl, inr, ⊎_elim, arith}
use Rattle.std.proofs.lemmas.Bool.{eqb-true, eq-eqb, ne_eqb, cases_eq, cases_Bool, cond-true, cond-false, and_parts, and_from, and_left, and_right, or_cases, or_left, or_right, both_ways, not-true, not_from_false, lt-ltb, le-ltb, ltb-true}
use Rattle.carry.specs.declared.net.Place.{Place}
use Rattle.carry.specs.declared.turn.Turn.{Turn}
use Rattle.carry.specs.declared.turn.Turn.TheVariants.{Straight, Turned}
use Rattle.carry.specs.Kinds.{Kind}
use Rattle.carry.specs.Webs.{Sound}
use Rattle.carry.specs.Turns.{turn_meaning}
use Rattle.rules.specs.Readings.{face, listed}
use Rattle.rules.specs.Tests.{on, on_face}
use Rattle.rules.specs.NetTests.{among, same_three, read_at, alike, meets, or_else, lowest, opposite, inside, placed, partner, stepped, cell_joins, cell_steps, cell_web, turning}
use Rattle.rules.proofs.Corners.{by_four, both}
use Rattle.rules.proofs.Exact.{Exact, back}

or_1 : (a b c : Bool) → (a || (b || c)) ≡ (b || (a || c))
or_1 true true c = refl
or_1 true false c = refl
or_1 false true c = refl
or_1 false false c = refl

or_2 : (a b c : Bool) → (a || (b || c)) ≡ (c || (a || b))
or_2 true b true = refl
or_2 true b false = refl
or_2 false true true = refl
or_2 false true false = refl
or_2 false false true = refl
or_2 false false false = refl

or_3 : (a b c : Bool) → (a || (b || (c || false))) ≡ (a || (c || b))
or_3 true b c = refl
or_3 false true true = refl
or_3 false true false = refl
or_3 false false true = refl
or_3 false false false = refl

-- what is on a half-face is read there
pub on_reading : (x : List ℕ) (v i : ℕ) → i < 4 → on x i v ≡ among (listed (face x i)) v
on_reading x v =
    by_four (λ (i : ℕ). on x i v ≡ among (listed (face x i)) v)
    refl
    (or_1 (eqb (get_or x 0 0) v) (eqb (get_or x 2 0) v) (eqb (get_or x 3 0) v))
    (or_2 (eqb (get_or x 0 0) v) (eqb (get_or x 1 0) v) (eqb (get_or x 3 0) v))
    (or_3 (eqb (get_or x 0 0) v) (eqb (get_or x 1 0) v) (eqb (get_or x 2 0) v))

pub face_reading : (rs : List (List ℕ)) (h v : ℕ) → on_face rs h v ≡ among (read_at rs h) v
face_reading rs h v = on_reading (get_or rs (h / 4) []) v (h % 4) (omega arith)

-- v is the first, second or third of p
pub among_cases : (p : List ℕ) (v : ℕ) → among p v ≡ true → (get_or p 0 0 ≡ v) ⊎ ((get_or p 1 0 ≡ v) ⊎ (get_or p 2 0 ≡ v))
among_cases p v e =
    ⊎_elim (λ a. inl (eqb-true _ _ a))
    (λ r. ⊎_elim (λ b. inr (inl (eqb-true _ _ b))) (λ c. inr (inr (eqb-true _ _ c))) (or_cases _ _ r))
    (or_cases _ _ e)

pub among_0 : (p : List ℕ) → among p (get_or p 0 0) ≡ true
among_0 p = or_left _ _ (eq-eqb (get_or p 0 0) _ refl)

pub among_1 : (p : List ℕ) → among p (get_or p 1 0) ≡ true
among_1 p = or_right (eqb (get_or p 0 0) (get_or p 1 0)) _ (or_left _ _ (eq-eqb (get_or p 1 0) _ refl))

pub among_2 : (p : List ℕ) → among p (get_or p 2 0) ≡ true
among_2 p = or_right (eqb (get_or p 0 0) (get_or p 2 0)) _ (or_right (eqb (get_or p 1 0) (get_or p 2 0)) _ (eq-eqb (get_or p 2 0) _ refl))

-- every one of p is one of q
abbrev Within : List ℕ → List ℕ → Type 0
Within p q = (among q (get_or p 0 0) ≡ true) × (among q (get_or p 1 0) ≡ true) × (among q (get_or p 2 0) ≡ true)

within_all : (p q : List ℕ) → Within p q → (v : ℕ) → among p v ≡ true → among q v ≡ true
within_all p q w v e =
    ⊎_elim (λ a. subst (λ (x : ℕ). among q x ≡ true) a w.0)
    (λ r. ⊎_elim (λ b. subst (λ (x : ℕ). among q x ≡ true) b w.1) (λ c. subst (λ (x : ℕ). among q x ≡ true) c w.2) r)
    (among_cases p v e)

same_within : (p q : List ℕ) → same_three p q ≡ true → Within p q × Within q p
same_within p q e =
    let a = and_parts _ _ e in
    let b = and_parts _ _ a.0 in let b2 = and_parts _ _ b.1 in
    let c = and_parts _ _ a.1 in let c2 = and_parts _ _ c.1 in
    ((b.0, b2.0, b2.1), (c.0, c2.0, c2.1))

pub same_from : (p q : List ℕ) → same_three p q ≡ true → (v : ℕ) → among p v ≡ among q v
same_from p q e v = let w = same_within p q e in both (among p v) (among q v) (within_all p q w.0 v) (within_all q p w.1 v)

pub same_to : (p q : List ℕ) → ((v : ℕ) → among p v ≡ among q v) → same_three p q ≡ true
same_to p q s =
    and_from _ _
    (and_from _ _ (sym (s (get_or p 0 0)) ∙ among_0 p) (and_from _ _ (sym (s (get_or p 1 0)) ∙ among_1 p) (sym (s (get_or p 2 0)) ∙ among_2 p)))
    (and_from _ _ (s (get_or q 0 0) ∙ among_0 q) (and_from _ _ (s (get_or q 1 0) ∙ among_1 q) (s (get_or q 2 0) ∙ among_2 q)))

-- the lowest number that P has
or_else_some : (o : Option ℕ) (b : Bool) (n g : ℕ) → or_else o b n ≡ Some g → (o ≡ Some g) ⊎ ((b ≡ true) × (n ≡ g))
or_else_some (Some k) b n g e = inl e
or_else_some None true n g e = inr (refl, cc)
or_else_some None false n g e = absurd (let z : ◌≡◌ {A = ℕ} 0 1 = cc in omega arith)

or_else_none : (o : Option ℕ) (b : Bool) (n : ℕ) → or_else o b n ≡ None → (o ≡ None) × (b ≡ false)
or_else_none (Some k) b n e = absurd (let z : ◌≡◌ {A = ℕ} 0 1 = cc in omega arith)
or_else_none None true n e = absurd (let z : ◌≡◌ {A = ℕ} 0 1 = cc in omega arith)
or_else_none None false n e = (refl, refl)

pub lowest_some : (P : ℕ → Bool) (n g : ℕ) → lowest P n ≡ Some g → (g < n) × (P g ≡ true)
unfolding lowest
lowest_some P zero g e = absurd (let z : ◌≡◌ {A = ℕ} 0 1 = cc in omega arith)
lowest_some P (suc n) g e =
    ⊎_elim (λ a. let r = lowest_some P n g a in (omega arith, r.1))
    (λ b. (let q = b.1 in omega arith, subst (λ (x : ℕ). P x ≡ true) b.1 b.0))
    (or_else_some (lowest P n) (P n) n g e)

pub lowest_none : (P : ℕ → Bool) (n : ℕ) → lowest P n ≡ None → (g : ℕ) → g < n → P g ≡ false
unfolding lowest
lowest_none P zero e g l = absurd (omega arith)
lowest_none P (suc n) e g l =
    let a = or_else_none (lowest P n) (P n) n e in
    ⊎_elim (λ q. subst (λ (x : ℕ). P x ≡ false) (sym q) a.1) (λ q. lowest_none P n a.0 g (omega arith)) (cases_eq g n)

-- another half-face with the same vertices
pub meets_from : (rs : List (List ℕ)) (h g : ℕ) → meets rs h g ≡ true → (g ≡ h → ⊥) × ((v : ℕ) → on_face rs h v ≡ on_face rs g v)
unfolding meets
meets_from rs h g e =
    let a = and_parts (not (eqb g h)) _ e in (
      (λ q. both_ways (eqb g h) (not-true (eqb g h) a.0) (eq-eqb g h q)),
      (λ v. face_reading rs h v ∙ same_from (read_at rs h) (read_at rs g) a.1 v ∙ sym (face_reading rs g v)),
    )

pub meets_to : (rs : List (List ℕ)) (h g : ℕ) → (g ≡ h → ⊥) → ((v : ℕ) → on_face rs h v ≡ on_face rs g v) → meets rs h g ≡ true
unfolding meets
meets_to rs h g ne s =
    and_from _ _ (not_from_false (eqb g h) (ne_eqb g h ne))
    (same_to (read_at rs h) (read_at rs g) (λ v. sym (face_reading rs h v) ∙ s v ∙ face_reading rs g v))

pub cases_option : (o : Option ℕ) → (o ≡ None) ⊎ ((g : ℕ) × (o ≡ Some g))
cases_option None = inl refl
cases_option (Some g) = inr (g, refl)

-- the opposites of the rows are those that are stored
pub opposite_is : (rs : List (List ℕ)) (J : ℕ → Option ℕ) → Exact (on_face rs) (4 * length rs) J → (h : ℕ) → h < 4 * length rs → opposite rs h ≡ J h
unfolding opposite
opposite_is rs J e h l =
    ⊎_elim
    (λ n. ⊎_elim
    (λ m. n ∙ sym m)
    (λ m. absurd (both_ways (meets rs h m.0)
    (lowest_none (meets rs h) (4 * length rs) n m.0 (e.near h m.0 l m.1))
    (meets_to rs h m.0 (e.other h m.0 l m.1) (e.same h m.0 l m.1))))
    (cases_option (J h)))
    (λ s. let a = lowest_some (meets rs h) (4 * length rs) s.0 s.1 in
    let b = meets_from rs h s.0 a.1 in
    s.1 ∙ sym (e.whole h s.0 l a.0 b.0 b.1))
    (cases_option (lowest (meets rs h) (4 * length rs)))

-- the joins at a side within the range
pub inside_from : (rs : List (List ℕ)) (i s : ℕ) → inside rs i s ≡ true → (i < length rs) × (s < 4)
inside_from rs i s e = let a = and_parts _ _ e in (ltb-true i (length rs) a.0, ltb-true s 4 a.1)

pub inside_to : (rs : List (List ℕ)) (i s : ℕ) → i < length rs → s < 4 → inside rs i s ≡ true
inside_to rs i s l k = and_from _ _ (lt-ltb i (length rs) l) (lt-ltb s 4 k)

pub partner_in : (rs : List (List ℕ)) (i s : ℕ) → i < length rs → s < 4 → partner rs i s ≡ opposite rs (4 * i + s)
unfolding partner
partner_in rs i s l k = cond-true (inside rs i s) _ _ (inside_to rs i s l k)

pub partner_out : (rs : List (List ℕ)) (i s : ℕ) → inside rs i s ≡ false → partner rs i s ≡ None
unfolding partner
partner_out rs i s e = cond-false (inside rs i s) _ _ e

pub partner_from : (rs : List (List ℕ)) (i s g : ℕ) → partner rs i s ≡ Some g → (i < length rs) × (s < 4) × (opposite rs (4 * i + s) ≡ Some g)
partner_from rs i s g e =
    ⊎_elim
    (λ b. let r = inside_from rs i s b in (r.0, r.1, sym (partner_in rs i s r.0 r.1) ∙ e))
    (λ b. absurd (let y : None ≡ Some g = sym (partner_out rs i s b) ∙ e in let z : ◌≡◌ {A = ℕ} 0 1 = cc in omega arith))
    (cases_Bool (inside rs i s))

pub joins_in : (rs : List (List ℕ)) (i s : ℕ) → i < length rs → s < 4 → cell_joins rs i s ≡ placed (opposite rs (4 * i + s))
unfolding cell_joins
joins_in rs i s l k = ap placed (partner_in rs i s l k)

pub steps_in : (rs : List (List ℕ)) (n : ℕ) (f : ℕ → ℕ → ℕ) (i s : ℕ) → i < length rs → s < 4 → cell_steps rs n f i s ≡ stepped n f (4 * i + s) (opposite rs (4 * i + s))
unfolding cell_steps
steps_in rs n f i s l k = ap (stepped n f (4 * i + s)) (partner_in rs i s l k)

pub outside : (rs : List (List ℕ)) (n i s : ℕ) → length rs ≡ n → (n ≤ i) ⊎ (4 ≤ s) → inside rs i s ≡ false
outside rs n i s e h =
    ⊎_elim (λ a. and_left _ _ (le-ltb i (length rs) (omega arith))) (λ b. and_right (ltb i (length rs)) _ (le-ltb s 4 b)) h

placed_some : (o : Option ℕ) (p : Place) → placed o ≡ Some p → (g : ℕ) × (o ≡ Some g) × (record { item = g / 4; side = g % 4 } ≡ p)
placed_some None p e = absurd (let z : ◌≡◌ {A = ℕ} 0 1 = cc in omega arith)
placed_some (Some g) p e = (g, refl, cc)

pub placed_none : (o : Option ℕ) → placed o ≡ None → o ≡ None
placed_none None e = refl
placed_none (Some g) e = absurd (let z : ◌≡◌ {A = ℕ} 0 1 = cc in omega arith)

-- a join of the web, as one between half-faces
pub joined_from : (rs : List (List ℕ)) (i s : ℕ) (p : Place) → cell_joins rs i s ≡ Some p → (i < length rs) × (s < 4) × (opposite rs (4 * i + s) ≡ Some (4 * p.item + p.side)) × (p.side < 4)
unfolding cell_joins
joined_from rs i s p e =
    let q = placed_some (partner rs i s) p e in
    let r = partner_from rs i s q.0 q.1 in
    let a : q.0 / 4 ≡ p.item = ap (λ (x : Place). x.item) q.2 in
    let c : q.0 % 4 ≡ p.side = ap (λ (x : Place). x.side) q.2 in
    let z : q.0 ≡ 4 * p.item + p.side = omega arith in
    (r.0, r.1, r.2 ∙ ap Some z, omega arith)

pub joined_to : (rs : List (List ℕ)) (i s j r : ℕ) → i < length rs → s < 4 → r < 4 → opposite rs (4 * i + s) ≡ Some (4 * j + r) → cell_joins rs i s ≡ Some (record { item = j; side = r })
joined_to rs i s j r l k m e =
    let a : (4 * j + r) / 4 ≡ j = omega arith in
    let b : (4 * j + r) % 4 ≡ r = omega arith in
    joins_in rs i s l k ∙ ap placed e ∙ ap (λ (x : ℕ). Some (record { item = x; side = (4 * j + r) % 4 })) a ∙ ap (λ (x : ℕ). Some (record { item = j; side = x })) b

cond_bit : (b : Bool) → (v : Turn) × (turn_meaning v ≡ cond b 1 0)
cond_bit true = (Turned, refl)
cond_bit false = (Straight, refl)

stepped_bit : (rs : List (List ℕ)) (h : ℕ) (o : Option ℕ) → (v : Turn) × (turn_meaning v ≡ stepped 0 (turning rs) h o)
stepped_bit rs h None = (Straight, refl)
stepped_bit rs h (Some g) = cond_bit (alike rs h g)

pub steps_bit : (rs : List (List ℕ)) (i s : ℕ) → (v : Turn) × (turn_meaning v ≡ cell_steps rs 0 (turning rs) i s)
unfolding cell_steps
steps_bit rs i s = stepped_bit rs (4 * i + s) (partner rs i s)

-- each net of rows is a net
pub web_sound : (rs : List (List ℕ)) (J : ℕ → Option ℕ) (k : Kind) (f : ℕ → ℕ → ℕ) → length rs ≤ 1024 → Exact (on_face rs) (4 * length rs) J → Sound (cell_web rs k.neutral f) k
unfolding cell_joins cell_steps
web_sound rs J kind f few e = record {
  few_items = omega arith;
  some_side = omega arith;
  few_sides = omega arith;
  inside = λ i s p q. let r = joined_from rs i s p q in (r.0, r.1);
  within = λ i s p q.
      let r = joined_from rs i s p q in
      let l : 4 * i + s < 4 * length rs = omega arith in
      let n = e.near (4 * i + s) (4 * p.item + p.side) l (sym (opposite_is rs J e (4 * i + s) l) ∙ r.2) in
      (omega arith, r.3);
  back = λ i s p q.
      let r = joined_from rs i s p q in
      let l : 4 * i + s < 4 * length rs = omega arith in
      let m : J (4 * i + s) ≡ Some (4 * p.item + p.side) = sym (opposite_is rs J e (4 * i + s) l) ∙ r.2 in
      let n = e.near (4 * i + s) (4 * p.item + p.side) l m in
      joined_to rs p.item p.side i s (omega arith) r.3 r.1
      (opposite_is rs J e (4 * p.item + p.side) n ∙ back (on_face rs) (4 * length rs) J e (4 * i + s) (4 * p.item + p.side) l m);
  still = λ i s q. ap (stepped kind.neutral f (4 * i + s)) (placed_none (partner rs i s) q);
}
