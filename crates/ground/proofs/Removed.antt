-- A cell that is lifted: every fact of the ground stands after.
use Rattle.std.proofs.Common.{◌≡◌, ℕ, ◌+◌, ◌*◌, ◌/◌, ◌%◌, ◌<◌, ◌≤◌, false, cond, eqb, ltb, List, [], map, length, get_or, take, set, Some, None, Option, sym, refl, ap, ◌∙◌, subst, ⊎_elim, arith}
use lib.Seq.{take-set-lt}
use Rattle.std.proofs.lemmas.List.{length-set, get_or-set_same, get_or-set_other, get_or-take, take-take, take-map, take-set-le, length-take-le}
use Rattle.std.proofs.lemmas.Bool.{cases_eq, cases_lt, cases_order, cond-true, cond-false, eq-eqb, ne_eqb, lt-ltb, le-ltb}
use Rattle.ground.specs.declared.cell.Cell.{Cell}
use Rattle.rules.specs.Tests.{on, on_face, Below, Differ, Apart, Fine, names}
use Rattle.rules.proofs.Corners.{by_four, faces_apart}
use Rattle.ground.specs.Records.{blank, corners_of, rows, join_at, relinked_all, faces_of, nones, freed, moved_cells, lifted_cells, Near, AllNear, Linked, Four}
use Rattle.rules.proofs.Append.{which}
use Rattle.rules.proofs.Exact.{Exact, names_some, back, renumber}
use Rattle.ground.proofs.Laid.{length_relinked_all, rows_relinked_all, four_relinked_all, joins_relinked_all}
use Rattle.rules.proofs.Lifted.{source, source_here, source_there, lift_exact}
use Rattle.ground.proofs.Records.{length_rows, rows_at, rows_set, join_at_here, join_at_there}
use Rattle.rules.proofs.Swap.{unnamed}
use Rattle.ground.proofs.Turned.{Facts, four_set, face_at, join_at_lem, near_some}
use Rattle.rules.proofs.Options.{some_eq, some_none}

-- the joins after four relinks of different half-faces
module _ (cs : List Cell) (n : ℕ) (ws ts : List (Option ℕ)) (l : n ≤ length cs) (f : Four cs n)
    (near : (i g : ℕ) → i < 4 → get_or ws i None ≡ Some g → g < 4 * n)
    (uniq : (i k h : ℕ) → i < 4 → k < 4 → get_or ws i None ≡ Some h → get_or ws k None ≡ Some h → i ≡ k) where
  chain : (h : ℕ) → join_at (relinked_all cs ws ts) h ≡ cond (names (get_or ws 3 None) h) (get_or ts 3 None) (cond (names (get_or ws 2 None) h) (get_or ts 2 None) (cond (names (get_or ws 1 None) h) (get_or ts 1 None) (cond (names (get_or ws 0 None) h) (get_or ts 0 None) (join_at cs h))))
  chain h = joins_relinked_all cs n n ws ts h (omega arith) l f near

  no : (i k h : ℕ) → i < 4 → k < 4 → (k ≡ i → ⊥) → get_or ws i None ≡ Some h → names (get_or ws k None) h ≡ false
  no i k h a b ne p = unnamed (get_or ws k None) h (λ q. ne (uniq k i h b a q p))

  pub relinked_to : (i h : ℕ) → i < 4 → get_or ws i None ≡ Some h → join_at (relinked_all cs ws ts) h ≡ get_or ts i None
  relinked_to i h a =
      by_four (λ (i : ℕ). get_or ws i None ≡ Some h → join_at (relinked_all cs ws ts) h ≡ get_or ts i None)
      (λ p. chain h ∙ cond-false _ _ _ (no 0 3 h (omega arith) (omega arith) (λ z. omega arith) p) ∙ cond-false _ _ _ (no 0 2 h (omega arith) (omega arith) (λ z. omega arith) p) ∙ cond-false _ _ _ (no 0 1 h (omega arith) (omega arith) (λ z. omega arith) p) ∙ cond-true _ _ _ (names_some (get_or ws 0 None) h p))
      (λ p. chain h ∙ cond-false _ _ _ (no 1 3 h (omega arith) (omega arith) (λ z. omega arith) p) ∙ cond-false _ _ _ (no 1 2 h (omega arith) (omega arith) (λ z. omega arith) p) ∙ cond-true _ _ _ (names_some (get_or ws 1 None) h p))
      (λ p. chain h ∙ cond-false _ _ _ (no 2 3 h (omega arith) (omega arith) (λ z. omega arith) p) ∙ cond-true _ _ _ (names_some (get_or ws 2 None) h p))
      (λ p. chain h ∙ cond-true _ _ _ (names_some (get_or ws 3 None) h p))
      i a

  pub relinked_else : (h : ℕ) → ((i : ℕ) → i < 4 → get_or ws i None ≡ Some h → ⊥) → join_at (relinked_all cs ws ts) h ≡ join_at cs h
  relinked_else h m =
      chain h ∙ cond-false _ _ _ (unnamed (get_or ws 3 None) h (m 3 (omega arith))) ∙ cond-false _ _ _ (unnamed (get_or ws 2 None) h (m 2 (omega arith)))
      ∙ cond-false _ _ _ (unnamed (get_or ws 1 None) h (m 1 (omega arith))) ∙ cond-false _ _ _ (unnamed (get_or ws 0 None) h (m 0 (omega arith)))

module _ (cs : List Cell) (p t : ℕ) (tl : t ≤ p) (f : Facts cs (p + 1)) where
  room : p + 1 ≤ length cs
  room = f.room

  len : length (rows cs (p + 1)) ≡ p + 1
  len = length_rows cs (p + 1) room

  e : Exact (on_face (rows cs (p + 1))) (4 * (p + 1)) (join_at cs)
  e = f.exact

  turnback : (h g : ℕ) → h < 4 * (p + 1) → join_at cs h ≡ Some g → join_at cs g ≡ Some h
  turnback = back (on_face (rows cs (p + 1))) (4 * (p + 1)) (join_at cs) e

  -- the joins of cell t
  of_t : (i : ℕ) → i < 4 → join_at cs (4 * t + i) ≡ get_or (get_or cs t blank).joins i None
  of_t i a = join_at_lem cs (4 * t + i) t i (omega arith) (omega arith)

  t_near : (i g : ℕ) → i < 4 → get_or (get_or cs t blank).joins i None ≡ Some g → g < 4 * (p + 1)
  t_near i g a q = e.near (4 * t + i) g (omega arith) (of_t i a ∙ q)

  t_uniq : (i k h : ℕ) → i < 4 → k < 4 → get_or (get_or cs t blank).joins i None ≡ Some h → get_or (get_or cs t blank).joins k None ≡ Some h → i ≡ k
  t_uniq i k h a b q r =
      let z : 4 * t + i ≡ 4 * t + k = some_eq (4 * t + i) (4 * t + k) (sym (turnback (4 * t + i) h (omega arith) (of_t i a ∙ q)) ∙ turnback (4 * t + k) h (omega arith) (of_t k b ∙ r)) in
      omega arith

  free_to : (i h : ℕ) → i < 4 → join_at cs (4 * t + i) ≡ Some h → join_at (freed cs t) h ≡ None
  free_to i h a q =
      relinked_to cs (p + 1) (get_or cs t blank).joins nones room f.four t_near t_uniq i h a (sym (of_t i a) ∙ q)
      ∙ by_four (λ (i : ℕ). get_or nones i None ≡ None) refl refl refl refl i a

  free_else : (h : ℕ) → ((i : ℕ) → i < 4 → join_at cs (4 * t + i) ≡ Some h → ⊥) → join_at (freed cs t) h ≡ join_at cs h
  free_else h m = relinked_else cs (p + 1) (get_or cs t blank).joins nones room f.four t_near t_uniq h (λ i a q. m i a (of_t i a ∙ q))

  us : (h g : ℕ) → h < 4 * (p + 1) → join_at (freed cs t) h ≡ Some g → (join_at cs h ≡ Some g) × (g / 4 ≡ t → ⊥)
  us h g l q =
      ⊎_elim
      (λ w. absurd (some_none g (sym q ∙ free_to w.0 h w.1 w.2)))
      (λ m. let r : join_at cs h ≡ Some g = sym (free_else h m) ∙ q in
      (r, λ z. let y : g ≡ 4 * t + g % 4 = omega arith in m (g % 4) (omega arith) (ap (join_at cs) (sym y) ∙ turnback h g l r)))
      (which (λ i. join_at cs (4 * t + i)) h)

  uw : (h g : ℕ) → h < 4 * (p + 1) → (g / 4 ≡ t → ⊥) → join_at cs h ≡ Some g → join_at (freed cs t) h ≡ Some g
  uw h g l ne q =
      free_else h (λ i a r. let y : g ≡ 4 * t + i = some_eq g (4 * t + i) (sym q ∙ turnback (4 * t + i) h (omega arith) r) in ne (omega arith)) ∙ q

  pub near_t : AllNear (length cs) (get_or cs t blank).joins
  near_t =
      let at : (i : ℕ) → i < 4 → Near (length cs) (get_or (get_or cs t blank).joins i None) = λ i a. near_some (length cs) _ (λ g q. let r : g < 4 * (p + 1) = t_near i g a q in let s = room in omega arith) in
      (at 0 (omega arith), at 1 (omega arith), at 2 (omega arith), at 3 (omega arith))

  len_1 : length (freed cs t) ≡ length cs
  len_1 = length_relinked_all cs (get_or cs t blank).joins nones

  room_1 : p + 1 ≤ length (freed cs t)
  room_1 = rw len_1 room

  four_1 : Four (freed cs t) (p + 1)
  four_1 = four_relinked_all cs (p + 1) (get_or cs t blank).joins nones room f.four

  rows_1 : rows (freed cs t) (p + 1) ≡ rows cs (p + 1)
  rows_1 = rows_relinked_all cs (p + 1) (get_or cs t blank).joins nones room

  -- the joins of the last cell, once t is free
  of_p : (i : ℕ) → i < 4 → join_at (freed cs t) (4 * p + i) ≡ get_or (get_or (freed cs t) p blank).joins i None
  of_p i a = join_at_lem (freed cs t) (4 * p + i) p i (omega arith) (omega arith)

  p_join : (i g : ℕ) → i < 4 → get_or (get_or (freed cs t) p blank).joins i None ≡ Some g → join_at cs (4 * p + i) ≡ Some g
  p_join i g a q = (us (4 * p + i) g (omega arith) (of_p i a ∙ q)).0

  p_near : (i g : ℕ) → i < 4 → get_or (get_or (freed cs t) p blank).joins i None ≡ Some g → g < 4 * (p + 1)
  p_near i g a q = e.near (4 * p + i) g (omega arith) (p_join i g a q)

  p_uniq : (i k h : ℕ) → i < 4 → k < 4 → get_or (get_or (freed cs t) p blank).joins i None ≡ Some h → get_or (get_or (freed cs t) p blank).joins k None ≡ Some h → i ≡ k
  p_uniq i k h a b q r =
      let z : 4 * p + i ≡ 4 * p + k = some_eq (4 * p + i) (4 * p + k) (sym (turnback (4 * p + i) h (omega arith) (p_join i h a q)) ∙ turnback (4 * p + k) h (omega arith) (p_join k h b r)) in
      omega arith

  near_p : AllNear (length cs) (get_or (freed cs t) p blank).joins
  near_p =
      let at : (i : ℕ) → i < 4 → Near (length cs) (get_or (get_or (freed cs t) p blank).joins i None) = λ i a. near_some (length cs) _ (λ g q. let r : g < 4 * (p + 1) = p_near i g a q in let s = room in omega arith) in
      (at 0 (omega arith), at 1 (omega arith), at 2 (omega arith), at 3 (omega arith))

  pub linked_p : p < 1024 → Linked (freed cs t) p
  linked_p low = let r = room_1 in record { low = low; inside = omega arith; near = rw len_1 near_p }

  fine : (u : ℕ) → u < p + 1 → Fine (get_or (rows cs (p + 1)) u [])
  fine u l = let m : u < length (rows cs (p + 1)) = rw len l in record { below = λ i b. f.below u i (m, b); differ = λ i j a b z. f.differ u i j (m, a, b, z) }

  -- no two half-faces of the last cell are joined
  last_apart : (i k : ℕ) → i < 4 → k < 4 → join_at cs (4 * p + i) ≡ Some (4 * p + k) → ⊥
  last_apart i k a b q =
      let z : i ≡ k = faces_apart (get_or (rows cs (p + 1)) p []) (fine p (omega arith)) i k a (λ v.
      sym (face_at (rows cs (p + 1)) (4 * p + i) p i v (omega arith) (omega arith))
      ∙ e.same (4 * p + i) (4 * p + k) (omega arith) q v
      ∙ face_at (rows cs (p + 1)) (4 * p + k) p k v (omega arith) (omega arith)) in
      e.other (4 * p + i) (4 * p + k) (omega arith) q (omega arith)

  -- the rows after: row u was row `was u`
  abbrev after : List (List ℕ)
  after = take p (set (rows cs (p + 1)) t (get_or (rows cs (p + 1)) p []))

  len_after : length after ≡ p
  len_after = length-take-le p (set (rows cs (p + 1)) t (get_or (rows cs (p + 1)) p [])) (rw (length-set (rows cs (p + 1)) t (get_or (rows cs (p + 1)) p []), len) (omega arith))

  abbrev was : ℕ → ℕ
  was u = cond (eqb u t) p u

  was_t : (u : ℕ) → u ≡ t → was u ≡ p
  was_t u q = cond-true (eqb u t) p u (eq-eqb u t q)

  was_same : (u : ℕ) → (u ≡ t → ⊥) → was u ≡ u
  was_same u q = cond-false (eqb u t) p u (ne_eqb u t q)

  after_at : (u : ℕ) → u < p → get_or after u [] ≡ get_or (rows cs (p + 1)) (was u) []
  after_at u l =
      get_or-take p (set (rows cs (p + 1)) t (get_or (rows cs (p + 1)) p [])) u [] l
      ∙ ⊎_elim
      (λ (q : u ≡ t). ap (λ (k : ℕ). get_or (set (rows cs (p + 1)) t (get_or (rows cs (p + 1)) p [])) k []) q
      ∙ get_or-set_same (rows cs (p + 1)) t (get_or (rows cs (p + 1)) p []) [] (rw len (omega arith))
      ∙ ap (λ (k : ℕ). get_or (rows cs (p + 1)) k []) (sym (was_t u q)))
      (λ q. get_or-set_other (rows cs (p + 1)) t u (get_or (rows cs (p + 1)) p []) [] q ∙ ap (λ (k : ℕ). get_or (rows cs (p + 1)) k []) (sym (was_same u q)))
      (cases_eq u t)

  was_in : (u : ℕ) → u < p → was u < length (rows cs (p + 1))
  was_in u l =
      subst (λ (k : ℕ). was u < k) (sym len)
      (⊎_elim (λ q. subst (λ (k : ℕ). k < p + 1) (sym (was_t u q)) (omega arith)) (λ q. subst (λ (k : ℕ). k < p + 1) (sym (was_same u q)) (omega arith)) (cases_eq u t))

  was_inj : (u w : ℕ) → u < p → w < p → was u ≡ was w → u ≡ w
  was_inj u w a b z =
      ⊎_elim
      (λ q. ⊎_elim (λ r. q ∙ sym r) (λ r. let y : p ≡ w = sym (was_t u q) ∙ z ∙ was_same w r in absurd (omega arith)) (cases_eq w t))
      (λ q. ⊎_elim (λ r. let y : u ≡ p = sym (was_same u q) ∙ z ∙ was_t w r in absurd (omega arith)) (λ r. sym (was_same u q) ∙ z ∙ was_same w r) (cases_eq w t))
      (cases_eq u t)

  below' : Below after
  below' u i q = let l : u < p = rw len_after at q.0 in subst (λ (y : List ℕ). get_or y i 0 < 4096) (sym (after_at u l)) (f.below (was u) i (was_in u l, q.1))

  differ' : Differ after
  differ' u i k q =
      let l : u < p = rw len_after at q.0 in
      f.differ (was u) i k (was_in u l, q.1, q.2, subst (λ (y : List ℕ). get_or y i 0 ≡ get_or y k 0) (after_at u l) q.3)

  apart' : Apart after
  apart' u w q =
      let b : w < p = rw len_after at q.1 in
      let o : u < w = q.0 in
      let a : u < p = omega arith in
      let s : (v : ℕ) → on (get_or (rows cs (p + 1)) (was u) []) 4 v ≡ on (get_or (rows cs (p + 1)) (was w) []) 4 v =
      λ v. ap (λ (y : List ℕ). on y 4 v) (sym (after_at u a)) ∙ q.2 v ∙ ap (λ (y : List ℕ). on y 4 v) (after_at w b) in
      ⊎_elim
      (λ z. let y : u ≡ w = was_inj u w a b z in omega arith)
      (λ z. ⊎_elim (λ l. f.apart (was u) (was w) (l, was_in w b, s)) (λ l. f.apart (was w) (was u) (l, was_in u a, λ v. sym (s v))) z)
      (cases_order (was u) (was w))

  front : take p (rows cs (p + 1)) ≡ rows cs p
  front = take-map corners_of p (take (p + 1) cs) ∙ ap (map corners_of) (take-take p (p + 1) cs (omega arith))

  module _ (lt : t < p) where
    room_2 : p + 1 ≤ length (set (freed cs t) t (get_or (freed cs t) p blank))
    room_2 = rw (length-set (freed cs t) t (get_or (freed cs t) p blank)) room_1

    four_2 : Four (set (freed cs t) t (get_or (freed cs t) p blank)) (p + 1)
    four_2 = four_set (freed cs t) (p + 1) t (get_or (freed cs t) p blank) room_1 (four_1 p (omega arith)) four_1

    kh : (h : ℕ) → h / 4 ≡ t → join_at (set (freed cs t) t (get_or (freed cs t) p blank)) h ≡ join_at (freed cs t) (4 * p + h % 4)
    kh h q =
        join_at_here (freed cs t) t h (get_or (freed cs t) p blank) (let r = room_1 in omega arith) q
        ∙ sym (of_p (h % 4) (omega arith))

    kt : (h : ℕ) → (h / 4 ≡ t → ⊥) → join_at (set (freed cs t) t (get_or (freed cs t) p blank)) h ≡ join_at (freed cs t) h
    kt h q = join_at_there (freed cs t) t h (get_or (freed cs t) p blank) q

    jw : (i h : ℕ) → i < 4 → join_at (freed cs t) (4 * p + i) ≡ Some h → join_at (moved_cells (freed cs t) p t) h ≡ Some (4 * t + i)
    jw i h a q =
        relinked_to (set (freed cs t) t (get_or (freed cs t) p blank)) (p + 1) (get_or (freed cs t) p blank).joins (faces_of t) room_2 four_2 p_near p_uniq i h a (sym (of_p i a) ∙ q)
        ∙ by_four (λ (i : ℕ). get_or (faces_of t) i None ≡ Some (4 * t + i)) (ap Some (omega arith)) refl refl refl i a

    jo : (h : ℕ) → ((i : ℕ) → i < 4 → join_at (freed cs t) (4 * p + i) ≡ Some h → ⊥) → join_at (moved_cells (freed cs t) p t) h ≡ join_at (set (freed cs t) t (get_or (freed cs t) p blank)) h
    jo h m = relinked_else (set (freed cs t) t (get_or (freed cs t) p blank)) (p + 1) (get_or (freed cs t) p blank).joins (faces_of t) room_2 four_2 p_near p_uniq h (λ i a q. m i a (of_p i a ∙ q))

    ff : (h v : ℕ) → h < 4 * p → on_face after h v ≡ on_face (rows cs (p + 1)) (source t p h) v
    ff h v l =
        ap (λ (y : List ℕ). on y (h % 4) v) (after_at (h / 4) (omega arith))
        ∙ ⊎_elim
        (λ q. ap (λ (k : ℕ). on (get_or (rows cs (p + 1)) k []) (h % 4) v) (was_t (h / 4) q)
        ∙ sym (face_at (rows cs (p + 1)) (4 * p + h % 4) p (h % 4) v (omega arith) (omega arith))
        ∙ ap (λ (k : ℕ). on_face (rows cs (p + 1)) k v) (sym (source_here t p h q)))
        (λ q. ap (λ (k : ℕ). on (get_or (rows cs (p + 1)) k []) (h % 4) v) (was_same (h / 4) q)
        ∙ ap (λ (k : ℕ). on_face (rows cs (p + 1)) k v) (sym (source_there t p h q)))
        (cases_eq (h / 4) t)

    m4 : 4 * (p + 1) ≡ 4 * p + 4
    m4 = omega arith

    exact_moved : Exact (on_face after) (4 * p) (join_at (moved_cells (freed cs t) p t))
    exact_moved = lift_exact (on_face (rows cs (p + 1))) (on_face after) t p lt (join_at cs) (join_at (freed cs t)) (join_at (moved_cells (freed cs t) p t)) (join_at (set (freed cs t) t (get_or (freed cs t) p blank)))
        last_apart
        (λ h g l ne q. us h g (omega arith) q)
        (λ h g l ne k q. uw h g (omega arith) k q)
        kh kt jw jo ff
        (subst (λ (k : ℕ). Exact (on_face (rows cs (p + 1))) k (join_at cs)) m4 e)

    rows_moved : rows (moved_cells (freed cs t) p t) p ≡ after
    rows_moved =
        let l2 : p ≤ length (set (freed cs t) t (get_or (freed cs t) p blank)) = (let r = room_2 in omega arith) in
        let l0 : p ≤ length cs = (let r = room in omega arith) in
        rows_relinked_all (set (freed cs t) t (get_or (freed cs t) p blank)) p (get_or (freed cs t) p blank).joins (faces_of t) l2
        ∙ rows_set (freed cs t) p t (get_or (freed cs t) p blank) lt
        ∙ ap (λ (z : List (List ℕ)). set z t (get_or (freed cs t) p blank).corners) (rows_relinked_all cs p (get_or cs t blank).joins nones l0 ∙ sym front)
        ∙ ap (λ (y : List ℕ). set (take p (rows cs (p + 1))) t y) (sym (rows_at (freed cs t) (p + 1) p room_1 (omega arith)) ∙ ap (λ (z : List (List ℕ)). get_or z p []) rows_1)
        ∙ sym (take-set-lt p (rows cs (p + 1)) t (get_or (rows cs (p + 1)) p []) lt)

    facts_moved : Facts (moved_cells (freed cs t) p t) p
    facts_moved =
        let q = sym rows_moved in
        record {
          room = rw (length_relinked_all (set (freed cs t) t (get_or (freed cs t) p blank)) (get_or (freed cs t) p blank).joins (faces_of t)) (let r = room_2 in omega arith);
          below = subst Below q below';
          differ = subst Differ q differ';
          apart = subst Apart q apart';
          four = λ u l. four_relinked_all (set (freed cs t) t (get_or (freed cs t) p blank)) (p + 1) (get_or (freed cs t) p blank).joins (faces_of t) room_2 four_2 u (omega arith);
          exact = subst (λ (y : List (List ℕ)). Exact (on_face y) (4 * p) (join_at (moved_cells (freed cs t) p t))) q exact_moved;
        }

  module _ (eq : t ≡ p) where
    same_face_lem : (h v : ℕ) → h < 4 * p → on_face after h v ≡ on_face (rows cs (p + 1)) h v
    same_face_lem h v l =
        ap (λ (y : List ℕ). on y (h % 4) v) (after_at (h / 4) (omega arith))
        ∙ ap (λ (k : ℕ). on (get_or (rows cs (p + 1)) k []) (h % 4) v) (was_same (h / 4) (λ q. omega arith))

    exact_freed : Exact (on_face after) (4 * p) (join_at (freed cs t))
    exact_freed = renumber (on_face (rows cs (p + 1))) (on_face after) (4 * (p + 1)) (4 * p) (join_at cs) (join_at (freed cs t)) (λ h. h)
        (λ h g l k q. q)
        (λ h l. omega arith)
        same_face_lem
        (λ h g l q. let s = us h g (omega arith) q in
        let b : g < 4 * (p + 1) = e.near h g (omega arith) s.0 in
        (⊎_elim (λ a. a) (λ a. absurd (s.1 (omega arith))) (cases_lt g (4 * p)), s.0))
        (λ h g l k q. uw h g (omega arith) (λ z. omega arith) q)
        e

    rows_freed : rows (freed cs t) p ≡ after
    rows_freed =
        rows_relinked_all cs p (get_or cs t blank).joins nones (let r = room in omega arith)
        ∙ sym front
        ∙ sym (take-set-le p (rows cs (p + 1)) t (get_or (rows cs (p + 1)) p []) (omega arith))

    facts_freed : Facts (freed cs t) p
    facts_freed =
        let q = sym rows_freed in
        record {
          room = (let r = room_1 in omega arith);
          below = subst Below q below';
          differ = subst Differ q differ';
          apart = subst Apart q apart';
          four = λ u l. four_1 u (omega arith);
          exact = subst (λ (y : List (List ℕ)). Exact (on_face y) (4 * p) (join_at (freed cs t))) q exact_freed;
        }

  -- either way
  by_way : (P : List Cell → Type 0) → (t < p → P (moved_cells (freed cs t) p t)) → (t ≡ p → P (freed cs t)) → P (lifted_cells cs p t)
  by_way P a b =
      ⊎_elim
      (λ l. subst P (sym (cond-true (ltb t p) (moved_cells (freed cs t) p t) (freed cs t) (lt-ltb t p l))) (a l))
      (λ l. subst P (sym (cond-false (ltb t p) (moved_cells (freed cs t) p t) (freed cs t) (le-ltb t p l))) (b (omega arith)))
      (cases_lt t p)

  pub lifted_facts : Facts (lifted_cells cs p t) p
  lifted_facts = by_way (λ (z : List Cell). Facts z p) facts_moved facts_freed

  pub rows_lifted : rows (lifted_cells cs p t) p ≡ take p (set (rows cs (p + 1)) t (get_or (rows cs (p + 1)) p []))
  rows_lifted = by_way (λ (z : List Cell). rows z p ≡ after) rows_moved rows_freed

  pub length_lifted : length (lifted_cells cs p t) ≡ length cs
  length_lifted = by_way (λ (z : List Cell). length z ≡ length cs)
      (λ l. length_relinked_all (set (freed cs t) t (get_or (freed cs t) p blank)) (get_or (freed cs t) p blank).joins (faces_of t) ∙ length-set (freed cs t) t (get_or (freed cs t) p blank) ∙ len_1)
      (λ l. len_1)
