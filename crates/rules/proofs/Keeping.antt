-- Lawful rows stay lawful when a row is laid, lifted or turned, and joined triangles that read opposite ways still do after a lift.
use Rattle.std.proofs.Common.{◌≡◌, ℕ, zero, suc, ◌+◌, ◌-◌, ◌*◌, ◌/◌, ◌%◌, ◌<◌, ◌≤◌, cond, eqb, List, [], ◌∷◌, ◌++◌, length, get_or, set, Some, sym, refl, ap, ◌∙◌, subst, ⊎_elim, arith}
use Rattle.std.proofs.lemmas.List.{length-set, length-take-le, get_or-take, get_or-set_same, get_or-set_other, length_push, get_or_push, get_or_append_left}
use Rattle.std.proofs.lemmas.Bool.{cases_eq, cases_lt, cases_order, cond-true, cond-false, eq-eqb, ne_eqb}
use Rattle.refusal.specs.declared.Refusal.TheVariants.{VertexTooHigh, VerticesEqual, CellPresent, TriangleTaken}
use Rattle.refusal.specs.Causes.{NoCause}
use Rattle.carry.specs.declared.turn.Turn.{Turn}
use Rattle.carry.specs.declared.turn.Turn.TheVariants.{Straight, Turned}
use Rattle.rules.specs.Rows.{corner, TooHigh, Repeated, SameVertices, turned_row}
use Rattle.rules.specs.Readings.{Reading, face, reads, SameTriangle, Alike}
use Rattle.rules.specs.Joins.{Half, Joined, NoThree, LawfulRows}
use Rattle.rules.specs.PlainList.{Plain, laid, lifted, turned, StandsIn, TriangleOf, CrowdedIn, LayCause}
use Rattle.rules.specs.PlainList.LayCause.{high, equal, present, taken}
use Rattle.rules.specs.Nets.{turned_if, turned_by, AllOpposed, AllDiffer}
use Rattle.rules.specs.NetTests.{opposite}
use Rattle.rules.proofs.Corners.{by_four, on_at, at_on}
use Rattle.rules.proofs.Labelled.{length_turned, row_at}
use Rattle.rules.proofs.Opposing.{opposite_after}
use Rattle.rules.proofs.Opposites.{rows_exact, joined_sym}
use Rattle.rules.proofs.Options.{some_eq}
use Rattle.rules.proofs.TurnNets.{differ_of}

pub lawful_none : LawfulRows []
lawful_none = record {
  low = λ t l. absurd (omega arith);
  differ = λ t l. absurd (omega arith);
  apart = λ t u l k. absurd (omega arith);
  no_three = λ h g k j. absurd (let l = j.half in omega arith);
}

-- THE SAME VERTICES

vertices_sym : (x y : List ℕ) → SameVertices x y → SameVertices y x
vertices_sym x y s v = ((s v).1, (s v).0)

vertices_trans : (x y z : List ℕ) → SameVertices x y → SameVertices y z → SameVertices x z
vertices_trans x y z s r v = (λ w. (r v).0 ((s v).0 w), λ w. (s v).1 ((r v).1 w))

high_same : (x y : List ℕ) → SameVertices x y → TooHigh x → TooHigh y
high_same x y s h = let w = (s (corner x h.0)).0 (h.0, h.1, refl) in (w.0, w.1, subst (λ (v : ℕ). 4095 < v) w.2 h.2)

-- OTHER NUMBERS FOR THE SAME ROWS

apart_any : (rs : List (List ℕ)) → LawfulRows rs → (t u : ℕ) → t < length rs → u < length rs → (t ≡ u → ⊥) → SameVertices (get_or rs t []) (get_or rs u []) → ⊥
apart_any rs l t u a b ne s =
    ⊎_elim (λ k. l.apart t u k b s) (λ k. l.apart u t (omega arith) a (vertices_sym (get_or rs t []) (get_or rs u []) s)) (cases_lt t u)

-- row t of new is row f t of old, and each row of old is taken at most once
module _ (old new : List (List ℕ)) (f : ℕ → ℕ)
    (within : (t : ℕ) → t < length new → f t < length old)
    (one : (t u : ℕ) → t < length new → u < length new → f t ≡ f u → t ≡ u)
    (row : (t : ℕ) → t < length new → get_or new t [] ≡ get_or old (f t) []) where
  -- the old number of half-face h
  abbrev was : ℕ → ℕ
  was h = 4 * f (h / 4) + h % 4

  was_one : (h g : ℕ) → Half new h → Half new g → was h ≡ was g → h ≡ g
  was_one h g l k e = let z = one (h / 4) (g / 4) (omega arith) (omega arith) (omega arith) in omega arith

  was_in : (h : ℕ) → Half new h → Half old (was h)
  was_in h l = let k = within (h / 4) (omega arith) in omega arith

  reads_was : (h : ℕ) → Half new h → reads new h ≡ reads old (was h)
  reads_was h l =
      let r = row (h / 4) (omega arith) in
      let c : was h / 4 ≡ f (h / 4) = omega arith in
      let s : was h % 4 ≡ h % 4 = omega arith in
      cc

  -- what holds of two readings holds of the old ones
  both_were : (P : Reading → Reading → Type 0) (h g : ℕ) → Half new h → Half new g → P (reads new h) (reads new g) → P (reads old (was h)) (reads old (was g))
  both_were P h g l k x = subst (λ (a : Reading). P a (reads old (was g))) (reads_was h l) (subst (P (reads new h)) (reads_was g k) x)

  joined_was : (h g : ℕ) → Joined new h g → Joined old (was h) (was g)
  joined_was h g j = record {
    half = was_in h j.half;
    there = was_in g j.there;
    other = λ e. j.other (was_one h g j.half j.there e);
    same = both_were SameTriangle h g j.half j.there j.same;
  }

  pub opposed_renumbered : AllOpposed old → AllOpposed new
  opposed_renumbered o h g j a = o (was h) (was g) (joined_was h g j) (both_were Alike h g j.half j.there a)

  pub lawful_renumbered : LawfulRows old → LawfulRows new
  lawful_renumbered l = record {
    low = λ t k. subst (λ (x : List ℕ). TooHigh x → ⊥) (sym (row t k)) (l.low (f t) (within t k));
    differ = λ t k. subst (λ (x : List ℕ). Repeated x → ⊥) (sym (row t k)) (l.differ (f t) (within t k));
    apart = λ t u k b s.
        let a : t < length new = omega arith in
        apart_any old l (f t) (f u) (within t a) (within u b) (λ e. let z = one t u a b e in omega arith)
        (subst (λ (x : List ℕ). SameVertices x (get_or old (f u) [])) (row t a) (subst (SameVertices (get_or new t [])) (row u b) s));
    no_three = λ h g k a b. was_one g k a.there b.there (l.no_three (was h) (was g) (was k) (joined_was h g a) (joined_was h k b));
  }

-- LIFT

module _ (p : Plain) (t : ℕ) (there : t < length p.list) where
  abbrev rs : List (List ℕ)
  rs = p.list

  abbrev last : ℕ
  last = length rs - 1

  abbrev after : List (List ℕ)
  after = (lifted p t).list

  -- the old number of row u
  abbrev from : ℕ → ℕ
  from u = cond (eqb u t) last u

  from_here : (u : ℕ) → u ≡ t → from u ≡ last
  from_here u e = cond-true (eqb u t) last u (eq-eqb u t e)

  from_else : (u : ℕ) → (u ≡ t → ⊥) → from u ≡ u
  from_else u n = cond-false (eqb u t) last u (ne_eqb u t n)

  length_after : length after ≡ last
  length_after = length-take-le last (set rs t (get_or rs last [])) (rw (length-set rs t (get_or rs last [])) (omega arith))

  from_in : (u : ℕ) → u < length after → from u < length rs
  from_in u l = ⊎_elim (λ e. omega (arith, from_here u e)) (λ n. omega (arith, from_else u n, length_after)) (cases_eq u t)

  from_one : (u w : ℕ) → u < length after → w < length after → from u ≡ from w → u ≡ w
  from_one u w l k e =
      let n = length_after in
      ⊎_elim
      (λ a. ⊎_elim (λ b. a ∙ sym b) (λ b. omega (arith, from_here u a, from_else w b)) (cases_eq w t))
      (λ a. ⊎_elim (λ b. omega (arith, from_else u a, from_here w b)) (λ b. sym (from_else u a) ∙ e ∙ from_else w b) (cases_eq w t))
      (cases_eq u t)

  row_from : (u : ℕ) → u < length after → get_or after u [] ≡ get_or rs (from u) []
  row_from u l =
      get_or-take last (set rs t (get_or rs last [])) u [] (omega (arith, length_after))
      ∙ ⊎_elim
      (λ e. ap (λ (k : ℕ). get_or (set rs t (get_or rs last [])) k []) e ∙ get_or-set_same rs t (get_or rs last []) [] there ∙ ap (λ (k : ℕ). get_or rs k []) (sym (from_here u e)))
      (λ n. get_or-set_other rs t u (get_or rs last []) [] n ∙ ap (λ (k : ℕ). get_or rs k []) (sym (from_else u n)))
      (cases_eq u t)

  pub lawful_lifted : LawfulRows rs → LawfulRows after
  lawful_lifted = lawful_renumbered rs after from from_in from_one row_from

  pub opposed_lifted : AllOpposed rs → AllOpposed after
  opposed_lifted = opposed_renumbered rs after from from_in from_one row_from

-- TURN

-- the corner that corner i of a turned row was
abbrev crossed : ℕ → ℕ
crossed zero = 0
crossed (suc zero) = 1
crossed (suc (suc zero)) = 3
crossed (suc (suc (suc i))) = 2

crossed_in : (i : ℕ) → i < 4 → crossed i < 4
crossed_in = by_four (λ (i : ℕ). crossed i < 4) (omega arith) (omega arith) (omega arith) (omega arith)

crossed_twice : (i : ℕ) → i < 4 → crossed (crossed i) ≡ i
crossed_twice = by_four (λ (i : ℕ). crossed (crossed i) ≡ i) refl refl refl refl

corner_crossed : (x : List ℕ) (i : ℕ) → i < 4 → corner (turned_row x) i ≡ corner x (crossed i)
corner_crossed x = by_four (λ (i : ℕ). corner (turned_row x) i ≡ corner x (crossed i)) refl refl refl refl

if_vertices : (a : Turn) (x : List ℕ) → SameVertices (turned_if a x) x
if_vertices Straight x v = (λ w. w, λ w. w)
if_vertices Turned x v = (
  (λ w. (crossed w.0, crossed_in w.0 w.1, w.2 ∙ corner_crossed x w.0 w.1)),
  (λ w. let i = w.0 in let l = w.1 in
      (crossed i, crossed_in i l, w.2 ∙ ap (corner x) (sym (crossed_twice i l)) ∙ sym (corner_crossed x (crossed i) (crossed_in i l)))),
)

repeated_any : (x : List ℕ) (i j : ℕ) → i < 4 → j < 4 → (i ≡ j → ⊥) → corner x i ≡ corner x j → Repeated x
repeated_any x i j a b ne e = ⊎_elim (λ l. (i, j, l, b, e)) (λ l. (j, i, omega arith, a, sym e)) (cases_lt i j)

if_repeated : (a : Turn) (x : List ℕ) → Repeated (turned_if a x) → Repeated x
if_repeated Straight x r = r
if_repeated Turned x r =
    let i = r.0 in
    let j = r.1 in
    let b : j < 4 = r.3 in
    let a : i < 4 = let l : i < j = r.2 in omega arith in
    repeated_any x (crossed i) (crossed j) (crossed_in i a) (crossed_in j b)
    (λ e. let z : i ≡ j = sym (crossed_twice i a) ∙ ap crossed e ∙ crossed_twice j b in let l : i < j = r.2 in omega arith)
    (sym (corner_crossed x i a) ∙ r.4 ∙ corner_crossed x j b)

module _ (xs : List Turn) (rs : List (List ℕ)) (l : LawfulRows rs) where
  within : (t : ℕ) → t < length (turned_by xs rs) → t < length rs
  within t k = omega (arith, length_turned xs rs)

  vertices_kept : (t : ℕ) → t < length (turned_by xs rs) → SameVertices (get_or (turned_by xs rs) t []) (get_or rs t [])
  vertices_kept t k = subst (λ (x : List ℕ). SameVertices x (get_or rs t [])) (sym (row_at xs rs t (within t k))) (if_vertices (get_or xs t Straight) (get_or rs t []))

  opposite_is : (h g : ℕ) → Joined (turned_by xs rs) h g → opposite (turned_by xs rs) h ≡ Some g
  opposite_is = opposite_after rs (opposite rs) (rows_exact rs l.no_three) (differ_of rs l.differ) xs

  pub lawful_turned_by : LawfulRows (turned_by xs rs)
  lawful_turned_by = record {
    low = λ t k h. l.low t (within t k) (high_same (get_or (turned_by xs rs) t []) (get_or rs t []) (vertices_kept t k) h);
    differ = λ t k r. l.differ t (within t k) (if_repeated (get_or xs t Straight) (get_or rs t []) (subst Repeated (row_at xs rs t (within t k)) r));
    apart = λ t u k b s. l.apart t u k (within u b)
        (vertices_trans (get_or rs t []) (get_or (turned_by xs rs) t []) (get_or rs u []) (vertices_sym (get_or (turned_by xs rs) t []) (get_or rs t []) (vertices_kept t (omega arith)))
        (vertices_trans (get_or (turned_by xs rs) t []) (get_or (turned_by xs rs) u []) (get_or rs u []) s (vertices_kept u b)));
    no_three = λ h g k a b. some_eq g k (sym (opposite_is h g a) ∙ opposite_is h k b);
  }

-- the labels that turn row t alone
abbrev only : ℕ → List Turn
only zero = Turned ∷ []
only (suc t) = Straight ∷ only t

turned_only : (rs : List (List ℕ)) (t : ℕ) → turned_by (only t) rs ≡ set rs t (turned_row (get_or rs t []))
turned_only [] zero = refl
turned_only [] (suc t) = refl
turned_only (x ∷ rs) zero = refl
turned_only (x ∷ rs) (suc t) = ap (λ (ys : List (List ℕ)). x ∷ ys) (turned_only rs t)

pub lawful_turned : (p : Plain) (t : ℕ) → LawfulRows p.list → LawfulRows (turned p t).list
lawful_turned p t l = subst LawfulRows (turned_only p.list t) (lawful_turned_by (only t) p.list l)

-- LAY

triangle_sym : (a b : Reading) → SameTriangle a b → SameTriangle b a
triangle_sym a b s v = ((s v).1, (s v).0)

triangle_trans : (a b c : Reading) → SameTriangle a b → SameTriangle b c → SameTriangle a c
triangle_trans a b c s r v = (λ w. (r v).0 ((s v).0 w), λ w. (s v).1 ((r v).1 w))

-- the four triangles of a row differ
faces_differ : (x : List ℕ) → (Repeated x → ⊥) → (i k : ℕ) → i < 4 → k < 4 → SameTriangle (face x i) (face x k) → i ≡ k
faces_differ x d i k a b s =
    ⊎_elim (λ e. e)
    (λ n. let w = on_at x (corner x i) i a ((s (corner x i)).1 (at_on x (corner x i) k b (i, a, n, refl))) in
    absurd (d (repeated_any x i w.0 a w.1 (λ e. w.2 (sym e)) w.3)))
    (cases_eq i k)

-- so joined half-faces are of different rows
pub rows_differ : (rs : List (List ℕ)) → AllDiffer rs → (h g : ℕ) → Joined rs h g → h / 4 ≡ g / 4 → ⊥
rows_differ rs d h g j e =
    let same : SameTriangle (reads rs h) (face (get_or rs (h / 4) []) (g % 4)) = subst (λ (t : ℕ). SameTriangle (reads rs h) (face (get_or rs t []) (g % 4))) (sym e) j.same in
    let z : h % 4 ≡ g % 4 = faces_differ (get_or rs (h / 4) []) (d (h / 4) (omega arith)) (h % 4) (g % 4) (omega arith) (omega arith) same in
    j.other (omega arith)

-- half-faces that are joined to h are joined to one another
joined_both : (rs : List (List ℕ)) (h g k : ℕ) → (g ≡ k → ⊥) → Joined rs h g → Joined rs h k → Joined rs g k
joined_both rs h g k ne a b = record {
  half = a.there;
  there = b.there;
  other = ne;
  same = triangle_trans (reads rs g) (reads rs h) (reads rs k) (triangle_sym (reads rs h) (reads rs g) a.same) b.same;
}

module _ (rs : List (List ℕ)) (x : List ℕ) (l : LawfulRows rs) (low : TooHigh x → ⊥) (differ : Repeated x → ⊥) (fresh : StandsIn rs x → ⊥) (room : CrowdedIn rs x → ⊥) where
  abbrev longer : List (List ℕ)
  longer = rs ++ x ∷ []

  size : length longer ≡ length rs + 1
  size = length_push rs x

  row_old : (t : ℕ) → t < length rs → get_or longer t [] ≡ get_or rs t []
  row_old t k = get_or_append_left rs (x ∷ []) [] t k

  row_new : (t : ℕ) → t < length longer → length rs ≤ t → get_or longer t [] ≡ x
  row_new t k m = get_or_push rs x [] t (omega (arith, size))

  each : (P : List ℕ → Type 0) → ((t : ℕ) → t < length rs → P (get_or rs t [])) → P x → (t : ℕ) → t < length longer → P (get_or longer t [])
  each P old new t k = ⊎_elim (λ m. subst P (sym (row_old t m)) (old t m)) (λ m. subst P (sym (row_new t k m)) new) (cases_lt t (length rs))

  differ_all : AllDiffer longer
  differ_all = each (λ y. Repeated y → ⊥) l.differ differ

  apart_all : (t u : ℕ) → t < u → u < length longer → SameVertices (get_or longer t []) (get_or longer u []) → ⊥
  apart_all t u k b s =
      let a : t < length rs = omega (arith, size) in
      let s1 : SameVertices (get_or rs t []) (get_or longer u []) = subst (λ (y : List ℕ). SameVertices y (get_or longer u [])) (row_old t a) s in
      ⊎_elim
      (λ m. l.apart t u k m (subst (SameVertices (get_or rs t [])) (row_old u m) s1))
      (λ m. fresh (t, a, subst (SameVertices (get_or rs t [])) (row_new u b m) s1))
      (cases_lt u (length rs))

  -- half-faces of the old rows
  joined_old : (h g : ℕ) → h / 4 < length rs → g / 4 < length rs → Joined longer h g → Joined rs h g
  joined_old h g a b j = record {
    half = omega arith;
    there = omega arith;
    other = j.other;
    same = subst (λ (y : List ℕ). SameTriangle (face y (h % 4)) (reads rs g)) (row_old (h / 4) a) (subst (λ (y : List ℕ). SameTriangle (reads longer h) (face y (g % 4))) (row_old (g / 4) b) j.same);
  }

  -- a half-face of x and one of an old row
  triangle_new : (h g : ℕ) → length rs ≤ h / 4 → g / 4 < length rs → Joined longer h g → TriangleOf (face x (h % 4)) (get_or rs (g / 4) [])
  triangle_new h g a b j = (
    g % 4,
    omega arith,
    subst (λ (y : List ℕ). SameTriangle (face y (h % 4)) (reads rs g)) (row_new (h / 4) (let k = j.half in omega arith) a) (subst (λ (y : List ℕ). SameTriangle (reads longer h) (face y (g % 4))) (row_old (g / 4) b) j.same),
  )

  -- no triangle of x is in two half-faces of other rows
  no_crowd : (h g k : ℕ) → length rs ≤ h / 4 → Joined longer h g → Joined longer h k → Joined longer g k → ⊥
  no_crowd h g k n a b c =
      let old : (i : ℕ) → Joined longer h i → i / 4 < length rs = λ i j. let p = j.half in let q = j.there in omega (arith, size, rows_differ longer differ_all h i j) in
      let tg = triangle_new h g n (old g a) a in
      let tk = triangle_new h k n (old k b) b in
      ⊎_elim (rows_differ longer differ_all g k c)
      (⊎_elim
      (λ o. room (h % 4, g / 4, k / 4, omega arith, o, old k b, tg, tk))
      (λ o. room (h % 4, k / 4, g / 4, omega arith, o, old g a, tk, tg)))
      (cases_order (g / 4) (k / 4))

  no_three_all : NoThree longer
  no_three_all h g k a b =
      ⊎_elim (λ e. e)
      (λ ne. let c = joined_both longer h g k ne a b in
      ⊎_elim
      (λ oh. ⊎_elim
      (λ og. ⊎_elim
      (λ ok. l.no_three h g k (joined_old h g oh og a) (joined_old h k oh ok b))
      (λ nk. absurd (no_crowd k h g nk (joined_sym longer h k b) (joined_sym longer g k c) a))
      (cases_lt (k / 4) (length rs)))
      (λ ng. absurd (no_crowd g h k ng (joined_sym longer h g a) c b))
      (cases_lt (g / 4) (length rs)))
      (λ nh. absurd (no_crowd h g k nh a b c))
      (cases_lt (h / 4) (length rs)))
      (cases_eq g k)

  lawful_longer : LawfulRows longer
  lawful_longer = record { low = each (λ y. TooHigh y → ⊥) l.low low; differ = differ_all; apart = apart_all; no_three = no_three_all }

pub lawful_laid : (p : Plain) (x : List ℕ) → LawfulRows p.list → NoCause (LayCause p x) → LawfulRows (laid p x).list
lawful_laid p x l n = lawful_longer p.list x l (λ h. n VertexTooHigh (high h)) (λ h. n VerticesEqual (equal h)) (λ h. n CellPresent (present h)) (λ h. n TriangleTaken (taken h))
