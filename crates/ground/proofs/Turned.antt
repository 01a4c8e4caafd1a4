-- A turned cell: every fact of the ground stands after.
use Rattle.std.proofs.Common.{◌≡◌, ℕ, ◌+◌, ◌*◌, ◌/◌, ◌%◌, ◌<◌, ◌≤◌, Bool, true, false, cond, ◌||◌, eqb, List, [], length, get_or, set, Some, None, Option, sym, refl, ap, ◌∙◌, subst, ⊎_elim, arith}
use Rattle.std.proofs.lemmas.List.{length-set, get_or-set_same, get_or-set_other}
use Rattle.std.proofs.lemmas.Bool.{eq-eqb, ne_eqb, cases_eq, both_ways, or_from, or_right}
use Rattle.ground.specs.declared.cell.Cell.{Cell}
use Rattle.rules.specs.Rows.{turned_row}
use Rattle.rules.specs.Tests.{on, on_face, Below, Differ, Apart, names}
use Rattle.rules.proofs.Corners.{by_four}
use Rattle.ground.specs.Records.{blank, rows, join_at, Near, relinked, turned_cell, turned_cells, Four, JoinsNear, JoinsOther, JoinsSame, JoinsWhole}
use Rattle.rules.proofs.Exact.{Exact, named, names_some}
use Rattle.ground.proofs.Records.{Held, length_rows, rows_turned, length_relinked, join_at_there, join_at_relinked}
use Rattle.rules.proofs.Swap.{swap_exact}

pub exact_of : (F : ℕ → ℕ → Bool) (m : ℕ) (J : ℕ → Option ℕ) → JoinsNear m J → JoinsOther m J → JoinsSame F m J → JoinsWhole F m J → Exact F m J
exact_of F m J near other same whole = record {
  near = λ h g l p. near h g (l, p);
  other = λ h g l p q. other h g (l, p, q);
  same = λ h g l p v. same h g (v, l, p);
  whole = λ h g l k ne s. named (J h) g (whole h g (l, k, ne, s));
}

pub near_of : (F : ℕ → ℕ → Bool) (m : ℕ) (J : ℕ → Option ℕ) → Exact F m J → JoinsNear m J
near_of F m J e h g p = e.near h g p.0 p.1

pub other_of : (F : ℕ → ℕ → Bool) (m : ℕ) (J : ℕ → Option ℕ) → Exact F m J → JoinsOther m J
other_of F m J e h g p = e.other h g p.0 p.1 p.2

pub same_of : (F : ℕ → ℕ → Bool) (m : ℕ) (J : ℕ → Option ℕ) → Exact F m J → JoinsSame F m J
same_of F m J e h g p = e.same h g p.1 p.2 p.0

pub whole_of : (F : ℕ → ℕ → Bool) (m : ℕ) (J : ℕ → Option ℕ) → Exact F m J → JoinsWhole F m J
whole_of F m J e h g p = names_some (J h) g (e.whole h g p.0 p.1 p.2 p.3)

-- the vertices and the triangles of a turned row
or_swap : (p q r s : Bool) → (p || (q || (r || s))) ≡ (p || (q || (s || r)))
or_swap p q true true = refl
or_swap p q true false = refl
or_swap p q false true = refl
or_swap p q false false = refl

or_last : (p q r : Bool) → (p || (q || r)) ≡ (p || (q || (r || false)))
or_last p q true = refl
or_last p q false = refl

pub on_all : (x : List ℕ) (v : ℕ) → on (turned_row x) 4 v ≡ on x 4 v
on_all x v = or_swap (eqb (get_or x 0 0) v) (eqb (get_or x 1 0) v) (eqb (get_or x 3 0) v) (eqb (get_or x 2 0) v)

pub on_0 : (x : List ℕ) (v : ℕ) → on (turned_row x) 0 v ≡ on x 0 v
on_0 x v = or_swap false (eqb (get_or x 1 0) v) (eqb (get_or x 3 0) v) (eqb (get_or x 2 0) v)

pub on_1 : (x : List ℕ) (v : ℕ) → on (turned_row x) 1 v ≡ on x 1 v
on_1 x v = or_swap (eqb (get_or x 0 0) v) false (eqb (get_or x 3 0) v) (eqb (get_or x 2 0) v)

pub on_2 : (x : List ℕ) (v : ℕ) → on (turned_row x) 2 v ≡ on x 3 v
on_2 x v = or_last (eqb (get_or x 0 0) v) (eqb (get_or x 1 0) v) (eqb (get_or x 2 0) v)

pub on_3 : (x : List ℕ) (v : ℕ) → on (turned_row x) 3 v ≡ on x 2 v
on_3 x v = sym (or_last (eqb (get_or x 0 0) v) (eqb (get_or x 1 0) v) (eqb (get_or x 3 0) v))

-- a ground's facts
pub record Facts (cs : List Cell) (n : ℕ) : Type 0 where
  pub room : n ≤ length cs
  pub below : Below (rows cs n)
  pub differ : Differ (rows cs n)
  pub apart : Apart (rows cs n)
  pub four : Four cs n
  pub exact : Exact (on_face (rows cs n)) (4 * n) (join_at cs)

pub four_set : (cs : List Cell) (n t : ℕ) (c : Cell) → n ≤ length cs → length c.joins ≡ 4 → Four cs n → Four (set cs t c) n
four_set cs n t c l e f k h =
    ⊎_elim
    (λ p. let q : t < length cs = omega arith in
    ap (λ (i : ℕ). length (get_or (set cs t c) i blank).joins) p ∙ ap (λ (x : Cell). length x.joins) (get_or-set_same cs t c blank q) ∙ e)
    (λ ne. ap (λ (x : Cell). length x.joins) (get_or-set_other cs t k c blank ne) ∙ f k h)
    (cases_eq k t)

pub four_relinked : (cs : List Cell) (n : ℕ) (w to : Option ℕ) → n ≤ length cs → Four cs n → Four (relinked cs w to) n
four_relinked cs n None to l f k h = f k h
four_relinked cs n (Some g) to l f k h =
    ⊎_elim
    (λ p. let q : g / 4 < length cs = omega arith in
    let r : g / 4 < n = omega arith in
    ap (λ (i : ℕ). length (get_or (relinked cs (Some g) to) i blank).joins) p
    ∙ ap (λ (x : Cell). length x.joins) (get_or-set_same cs (g / 4) _ blank q)
    ∙ length-set (get_or cs (g / 4) blank).joins (g % 4) to ∙ f (g / 4) r)
    (λ ne. ap (λ (x : Cell). length x.joins) (get_or-set_other cs (g / 4) k _ blank ne) ∙ f k h)
    (cases_eq k (g / 4))

pub near_some : (N : ℕ) (w : Option ℕ) → ((g : ℕ) → w ≡ Some g → g / 4 < N) → Near N w
near_some N None f = tt
near_some N (Some g) f = f g refl

pub face_at : (rs : List (List ℕ)) (h t i v : ℕ) → h / 4 ≡ t → h % 4 ≡ i → on_face rs h v ≡ on (get_or rs t []) i v
face_at rs h t i v p q = ap (λ (k : ℕ). on (get_or rs k []) (h % 4) v) p ∙ ap (λ (k : ℕ). on (get_or rs t []) k v) q

pub join_at_lem : (cs : List Cell) (h t i : ℕ) → h / 4 ≡ t → h % 4 ≡ i → join_at cs h ≡ get_or (get_or cs t blank).joins i None
join_at_lem cs h t i p q = ap (λ (k : ℕ). get_or (get_or cs k blank).joins (h % 4) None) p ∙ ap (λ (k : ℕ). get_or (get_or cs t blank).joins k None) q

pub length_turned : (cs : List Cell) (t : ℕ) → length (turned_cells cs t) ≡ length cs
length_turned cs t = length_relinked _ (get_or (get_or cs t blank).joins 3 None) _ ∙ length_relinked _ (get_or (get_or cs t blank).joins 2 None) _ ∙ length-set cs t (turned_cell (get_or cs t blank))

-- corner 3 is on face 2 and not on face 3
pub faces_differ : (x : List ℕ) → ((i j : ℕ) → i < j → j < 4 → get_or x i 0 ≡ get_or x j 0 → ⊥) → ((v : ℕ) → on x 2 v ≡ on x 3 v) → ⊥
faces_differ x d s =
    let v = get_or x 3 0 in
    let e0 : eqb (get_or x 0 0) v ≡ false = ne_eqb (get_or x 0 0) v (d 0 3 (omega arith) (omega arith)) in
    let e1 : eqb (get_or x 1 0) v ≡ false = ne_eqb (get_or x 1 0) v (d 1 3 (omega arith) (omega arith)) in
    let e2 : eqb (get_or x 2 0) v ≡ false = ne_eqb (get_or x 2 0) v (d 2 3 (omega arith) (omega arith)) in
    let e3 : eqb (get_or x 3 0) v ≡ true = eq-eqb (get_or x 3 0) v refl in
    let no3 : on x 3 v ≡ false = or_from _ _ e0 (or_from _ _ e1 (or_from _ _ e2 refl)) in
    let yes2 : on x 2 v ≡ true = or_right (eqb (get_or x 0 0) v) _ (or_right (eqb (get_or x 1 0) v) _ e3) in
    both_ways (on x 2 v) (s v ∙ no3) yes2

module _ (cs : List Cell) (n t : ℕ) (h : t < n) (f : Facts cs n) where
  rs : List (List ℕ)
  rs = rows cs n

  row : List ℕ
  row = get_or (rows cs n) t []

  private_in : t < length (rows cs n)
  private_in = rw (length_rows cs n f.room) h

  here : get_or (set (rows cs n) t (turned_row (get_or (rows cs n) t []))) t [] ≡ turned_row (get_or (rows cs n) t [])
  here = get_or-set_same (rows cs n) t (turned_row (get_or (rows cs n) t [])) [] private_in

  there : (u : ℕ) → (u ≡ t → ⊥) → get_or (set (rows cs n) t (turned_row (get_or (rows cs n) t []))) u [] ≡ get_or (rows cs n) u []
  there u ne = get_or-set_other (rows cs n) t u (turned_row (get_or (rows cs n) t [])) [] ne

  face_there : (k v : ℕ) → (k / 4 ≡ t → ⊥) → on_face (set (rows cs n) t (turned_row (get_or (rows cs n) t []))) k v ≡ on_face (rows cs n) k v
  face_there k v ne = ap (λ (y : List ℕ). on y (k % 4) v) (there (k / 4) ne)

  face_here : (k i j v : ℕ) → k / 4 ≡ t → k % 4 ≡ i → ((x : List ℕ) → on (turned_row x) i v ≡ on x j v) → (g : ℕ) → g / 4 ≡ t → g % 4 ≡ j
      → on_face (set (rows cs n) t (turned_row (get_or (rows cs n) t []))) k v ≡ on_face (rows cs n) g v
  face_here k i j v p q s g p' q' =
      face_at (set (rows cs n) t (turned_row (get_or (rows cs n) t []))) k t i v p q
      ∙ ap (λ (y : List ℕ). on y i v) here ∙ s (get_or (rows cs n) t []) ∙ sym (face_at (rows cs n) g t j v p' q')

  fo : (k v : ℕ) → k < 4 * n → (k ≡ 4 * t + 2 → ⊥) → (k ≡ 4 * t + 3 → ⊥) → on_face (set (rows cs n) t (turned_row (get_or (rows cs n) t []))) k v ≡ on_face (rows cs n) k v
  fo k v l na nb =
      ⊎_elim
      (λ p. ⊎_elim
      (λ q. face_here k 0 0 v p q (λ x. on_0 x v) k p q)
      (λ nq. let q : k % 4 ≡ 1 = omega arith in face_here k 1 1 v p q (λ x. on_1 x v) k p q)
      (cases_eq (k % 4) 0))
      (λ ne. face_there k v ne)
      (cases_eq (k / 4) t)

  c1 : List Cell
  c1 = set cs t (turned_cell (get_or cs t blank))

  t_in : t < length cs
  t_in = let r = f.room in omega arith

  ko : (k : ℕ) → (k ≡ 4 * t + 2 → ⊥) → (k ≡ 4 * t + 3 → ⊥) → join_at (set cs t (turned_cell (get_or cs t blank))) k ≡ join_at cs k
  ko k na nb =
      ⊎_elim
      (λ p. ⊎_elim
      (λ q. join_at_lem (set cs t (turned_cell (get_or cs t blank))) k t 0 p q ∙ ap (λ (x : Cell). get_or x.joins 0 None) (get_or-set_same cs t (turned_cell (get_or cs t blank)) blank t_in) ∙ sym (join_at_lem cs k t 0 p q))
      (λ nq. let q : k % 4 ≡ 1 = omega arith in
      join_at_lem (set cs t (turned_cell (get_or cs t blank))) k t 1 p q ∙ ap (λ (x : Cell). get_or x.joins 1 None) (get_or-set_same cs t (turned_cell (get_or cs t blank)) blank t_in) ∙ sym (join_at_lem cs k t 1 p q))
      (cases_eq (k % 4) 0))
      (λ ne. join_at_there cs t k (turned_cell (get_or cs t blank)) ne)
      (cases_eq (k / 4) t)

  is_a : join_at cs (4 * t + 2) ≡ get_or (get_or cs t blank).joins 2 None
  is_a = join_at_lem cs (4 * t + 2) t 2 (omega arith) (omega arith)

  is_b : join_at cs (4 * t + 3) ≡ get_or (get_or cs t blank).joins 3 None
  is_b = join_at_lem cs (4 * t + 3) t 3 (omega arith) (omega arith)

  ka : join_at (set cs t (turned_cell (get_or cs t blank))) (4 * t + 2) ≡ join_at cs (4 * t + 3)
  ka = join_at_lem (set cs t (turned_cell (get_or cs t blank))) (4 * t + 2) t 2 (omega arith) (omega arith)
      ∙ ap (λ (x : Cell). get_or x.joins 2 None) (get_or-set_same cs t (turned_cell (get_or cs t blank)) blank t_in) ∙ sym is_b

  kb : join_at (set cs t (turned_cell (get_or cs t blank))) (4 * t + 3) ≡ join_at cs (4 * t + 2)
  kb = join_at_lem (set cs t (turned_cell (get_or cs t blank))) (4 * t + 3) t 3 (omega arith) (omega arith)
      ∙ ap (λ (x : Cell). get_or x.joins 3 None) (get_or-set_same cs t (turned_cell (get_or cs t blank)) blank t_in) ∙ sym is_a

  four_1 : Four (set cs t (turned_cell (get_or cs t blank))) n
  four_1 = four_set cs n t (turned_cell (get_or cs t blank)) f.room refl f.four

  room_1 : n ≤ length (set cs t (turned_cell (get_or cs t blank)))
  room_1 = rw (length-set cs t (turned_cell (get_or cs t blank))) f.room

  abbrev c2 : List Cell
  c2 = relinked (set cs t (turned_cell (get_or cs t blank))) (get_or (get_or cs t blank).joins 2 None) (Some (4 * t + 3))

  room_2 : n ≤ length c2
  room_2 = rw (length_relinked (set cs t (turned_cell (get_or cs t blank))) (get_or (get_or cs t blank).joins 2 None) (Some (4 * t + 3))) room_1

  four_2 : Four c2 n
  four_2 = four_relinked (set cs t (turned_cell (get_or cs t blank))) n (get_or (get_or cs t blank).joins 2 None) (Some (4 * t + 3)) room_1 four_1

  pub turned_four : Four (turned_cells cs t) n
  turned_four = four_relinked c2 n (get_or (get_or cs t blank).joins 3 None) (Some (4 * t + 2)) room_2 four_2

  pub turned_room : n ≤ length (turned_cells cs t)
  turned_room = rw (length_relinked c2 (get_or (get_or cs t blank).joins 3 None) (Some (4 * t + 2))) room_2

  held : (ds : List Cell) (k : ℕ) (w : Option ℕ) → n ≤ length ds → Four ds n → k < 4 * n → join_at cs k ≡ w → Held ds w
  held ds k w r fo' l e g p =
      let m : g < 4 * n = f.exact.near k g l (e ∙ p) in
      let q : g / 4 < n = omega arith in
      let s = fo' (g / 4) q in
      (omega arith, omega arith)

  j : (k : ℕ) → join_at (turned_cells cs t) k ≡ cond (names (join_at cs (4 * t + 3)) k) (Some (4 * t + 2)) (cond (names (join_at cs (4 * t + 2)) k) (Some (4 * t + 3)) (join_at (set cs t (turned_cell (get_or cs t blank))) k))
  j k =
      join_at_relinked c2 (get_or (get_or cs t blank).joins 3 None) (Some (4 * t + 2)) k (held c2 (4 * t + 3) _ room_2 four_2 (omega arith) is_b)
      ∙ ap (λ (o : Option ℕ). cond (names (get_or (get_or cs t blank).joins 3 None) k) (Some (4 * t + 2)) o)
      (join_at_relinked (set cs t (turned_cell (get_or cs t blank))) (get_or (get_or cs t blank).joins 2 None) (Some (4 * t + 3)) k (held (set cs t (turned_cell (get_or cs t blank))) (4 * t + 2) _ room_1 four_1 (omega arith) is_a))
      ∙ ap (λ (w : Option ℕ). cond (names w k) (Some (4 * t + 2)) (cond (names (get_or (get_or cs t blank).joins 2 None) k) (Some (4 * t + 3)) (join_at (set cs t (turned_cell (get_or cs t blank))) k))) (sym is_b)
      ∙ ap (λ (w : Option ℕ). cond (names (join_at cs (4 * t + 3)) k) (Some (4 * t + 2)) (cond (names w k) (Some (4 * t + 3)) (join_at (set cs t (turned_cell (get_or cs t blank))) k))) (sym is_a)

  fab : ((v : ℕ) → on_face (rows cs n) (4 * t + 2) v ≡ on_face (rows cs n) (4 * t + 3) v) → ⊥
  fab s = faces_differ (get_or (rows cs n) t []) (λ i k p q z. f.differ t i k (private_in, p, q, z))
      (λ v. sym (face_at (rows cs n) (4 * t + 2) t 2 v (omega arith) (omega arith)) ∙ s v ∙ face_at (rows cs n) (4 * t + 3) t 3 v (omega arith) (omega arith))

  exact' : Exact (on_face (set (rows cs n) t (turned_row (get_or (rows cs n) t [])))) (4 * n) (join_at (turned_cells cs t))
  exact' = swap_exact (on_face (rows cs n)) (on_face (set (rows cs n) t (turned_row (get_or (rows cs n) t [])))) (4 * n) (join_at cs) (join_at (turned_cells cs t)) (join_at (set cs t (turned_cell (get_or cs t blank)))) (4 * t + 2) (4 * t + 3)
      (omega arith) (omega arith) (λ z. omega arith) fab
      (λ v. face_here (4 * t + 2) 2 3 v (omega arith) (omega arith) (λ x. on_2 x v) (4 * t + 3) (omega arith) (omega arith))
      (λ v. face_here (4 * t + 3) 3 2 v (omega arith) (omega arith) (λ x. on_3 x v) (4 * t + 2) (omega arith) (omega arith))
      fo ka kb ko j f.exact

  below' : (u i : ℕ) → u < n → i < 4 → get_or (get_or (set (rows cs n) t (turned_row (get_or (rows cs n) t []))) u []) i 0 < 4096
  below' u i l k =
      ⊎_elim
      (λ p. subst (λ (y : List ℕ). get_or y i 0 < 4096) (sym here ∙ ap (λ (w : ℕ). get_or (set (rows cs n) t (turned_row (get_or (rows cs n) t []))) w []) (sym p))
      (by_four (λ (w : ℕ). get_or (turned_row (get_or (rows cs n) t [])) w 0 < 4096)
      (f.below t 0 (private_in, omega arith)) (f.below t 1 (private_in, omega arith)) (f.below t 3 (private_in, omega arith)) (f.below t 2 (private_in, omega arith)) i k))
      (λ ne. subst (λ (y : List ℕ). get_or y i 0 < 4096) (sym (there u ne)) (f.below u i (rw (length_rows cs n f.room) l, k)))
      (cases_eq u t)

  differ_row : (i k : ℕ) → i < k → k < 4 → get_or (turned_row (get_or (rows cs n) t [])) i 0 ≡ get_or (turned_row (get_or (rows cs n) t [])) k 0 → ⊥
  differ_row i k p q z =
      let d01 = λ (y : get_or (get_or (rows cs n) t []) 0 0 ≡ get_or (get_or (rows cs n) t []) 1 0). f.differ t 0 1 (private_in, omega arith, omega arith, y) in
      let d02 = λ (y : get_or (get_or (rows cs n) t []) 0 0 ≡ get_or (get_or (rows cs n) t []) 2 0). f.differ t 0 2 (private_in, omega arith, omega arith, y) in
      let d03 = λ (y : get_or (get_or (rows cs n) t []) 0 0 ≡ get_or (get_or (rows cs n) t []) 3 0). f.differ t 0 3 (private_in, omega arith, omega arith, y) in
      let d12 = λ (y : get_or (get_or (rows cs n) t []) 1 0 ≡ get_or (get_or (rows cs n) t []) 2 0). f.differ t 1 2 (private_in, omega arith, omega arith, y) in
      let d13 = λ (y : get_or (get_or (rows cs n) t []) 1 0 ≡ get_or (get_or (rows cs n) t []) 3 0). f.differ t 1 3 (private_in, omega arith, omega arith, y) in
      let d23 = λ (y : get_or (get_or (rows cs n) t []) 2 0 ≡ get_or (get_or (rows cs n) t []) 3 0). f.differ t 2 3 (private_in, omega arith, omega arith, y) in
      let P : ℕ → ℕ → Type 0 = λ i k. i < k → get_or (turned_row (get_or (rows cs n) t [])) i 0 ≡ get_or (turned_row (get_or (rows cs n) t [])) k 0 → ⊥ in
      by_four (λ (i : ℕ). (k : ℕ) → k < 4 → P i k)
      (by_four (P 0) (λ l. absurd (omega arith)) (λ l. d01) (λ l. d03) (λ l. d02))
      (by_four (P 1) (λ l. absurd (omega arith)) (λ l. absurd (omega arith)) (λ l. d13) (λ l. d12))
      (by_four (P 2) (λ l. absurd (omega arith)) (λ l. absurd (omega arith)) (λ l. absurd (omega arith)) (λ l y. d23 (sym y)))
      (by_four (P 3) (λ l. absurd (omega arith)) (λ l. absurd (omega arith)) (λ l. absurd (omega arith)) (λ l. absurd (omega arith)))
      i (omega arith) k q p z

  differ' : (u i k : ℕ) → u < n → i < k → k < 4 → get_or (get_or (set (rows cs n) t (turned_row (get_or (rows cs n) t []))) u []) i 0 ≡ get_or (get_or (set (rows cs n) t (turned_row (get_or (rows cs n) t []))) u []) k 0 → ⊥
  differ' u i k l p q =
      ⊎_elim
      (λ e. subst (λ (y : List ℕ). get_or y i 0 ≡ get_or y k 0 → ⊥) (sym here ∙ ap (λ (w : ℕ). get_or (set (rows cs n) t (turned_row (get_or (rows cs n) t []))) w []) (sym e)) (differ_row i k p q))
      (λ ne. subst (λ (y : List ℕ). get_or y i 0 ≡ get_or y k 0 → ⊥) (sym (there u ne)) (λ z. f.differ u i k (rw (length_rows cs n f.room) l, p, q, z)))
      (cases_eq u t)

  all_same : (u v : ℕ) → on (get_or (set (rows cs n) t (turned_row (get_or (rows cs n) t []))) u []) 4 v ≡ on (get_or (rows cs n) u []) 4 v
  all_same u v =
      ⊎_elim
      (λ e. ap (λ (w : ℕ). on (get_or (set (rows cs n) t (turned_row (get_or (rows cs n) t []))) w []) 4 v) e ∙ ap (λ (y : List ℕ). on y 4 v) here ∙ on_all (get_or (rows cs n) t []) v ∙ ap (λ (w : ℕ). on (get_or (rows cs n) w []) 4 v) (sym e))
      (λ ne. ap (λ (y : List ℕ). on y 4 v) (there u ne))
      (cases_eq u t)

  length_after : length (set (rows cs n) t (turned_row (get_or (rows cs n) t []))) ≡ n
  length_after = length-set (rows cs n) t (turned_row (get_or (rows cs n) t [])) ∙ length_rows cs n f.room

  pub turned_facts : Facts (turned_cells cs t) n
  turned_facts =
      let e = sym (rows_turned cs n t f.room h) in
      record {
        room = turned_room;
        below = subst Below e (λ u i p. below' u i (rw length_after at p.0) p.1);
        differ = subst Differ e (λ u i k p. differ' u i k (rw length_after at p.0) p.1 p.2 p.3);
        apart = subst Apart e (λ u w p. f.apart u w (p.0, rw (length_rows cs n f.room) (rw length_after at p.1), λ v. sym (all_same u v) ∙ p.2 v ∙ all_same w v));
        four = turned_four;
        exact = subst (λ (y : List (List ℕ)). Exact (on_face y) (4 * n) (join_at (turned_cells cs t))) e exact';
      }
