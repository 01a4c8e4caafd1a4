-- A cell that is laid: every fact of the ground stands after.
use Rattle.std.proofs.Common.{◌≡◌, ℕ, ◌+◌, ◌*◌, ◌/◌, ◌%◌, ◌<◌, ◌≤◌, false, cond, List, [], ◌∷◌, ◌++◌, map, length, get_or, take, set, Some, None, Option, sym, ap, ◌∙◌, subst, ⊎_elim, arith}
use Rattle.std.proofs.lemmas.List.{length-set, get_or-set_same, get_or-set_other, take_more_set, map_push, length_push, get_or_push, get_or_append_left}
use Rattle.std.proofs.lemmas.Bool.{cases_eq, cond-true, cond-false}
use Rattle.ground.specs.declared.cell.Cell.{Cell}
use Rattle.rules.specs.Tests.{on, on_face, Below, Differ, Apart, Fine, names}
use Rattle.rules.proofs.Corners.{by_four, faces_apart}
use Rattle.ground.specs.Records.{blank, corners_of, rows, join_at, relinked, relinked_all, faces_of, laid_cells, Four}
use Rattle.ground.specs.Searches.{Met}
use Rattle.rules.proofs.Append.{append_exact}
use Rattle.rules.proofs.Exact.{Exact, names_some}
use Rattle.ground.proofs.Records.{Held, length_rows, rows_relinked, length_relinked, join_at_there, join_at_relinked}
use Rattle.rules.proofs.Swap.{unnamed}
use Rattle.ground.proofs.Turned.{Facts, four_relinked, face_at, join_at_lem}

pub length_relinked_all : (cs : List Cell) (ws ts : List (Option ℕ)) → length (relinked_all cs ws ts) ≡ length cs
length_relinked_all cs ws ts = length_relinked _ (get_or ws 3 None) _ ∙ length_relinked _ (get_or ws 2 None) _ ∙ length_relinked _ (get_or ws 1 None) _ ∙ length_relinked cs (get_or ws 0 None) _

pub rows_relinked_all : (cs : List Cell) (n : ℕ) (ws ts : List (Option ℕ)) → n ≤ length cs → rows (relinked_all cs ws ts) n ≡ rows cs n
rows_relinked_all cs n ws ts l =
    let l1 : n ≤ length (relinked cs (get_or ws 0 None) (get_or ts 0 None)) = rw (length_relinked cs (get_or ws 0 None) (get_or ts 0 None)) l in
    let l2 : n ≤ length (relinked (relinked cs (get_or ws 0 None) (get_or ts 0 None)) (get_or ws 1 None) (get_or ts 1 None)) = rw (length_relinked (relinked cs (get_or ws 0 None) (get_or ts 0 None)) (get_or ws 1 None) (get_or ts 1 None)) l1 in
    let l3 : n ≤ length (relinked (relinked (relinked cs (get_or ws 0 None) (get_or ts 0 None)) (get_or ws 1 None) (get_or ts 1 None)) (get_or ws 2 None) (get_or ts 2 None)) = rw (length_relinked (relinked (relinked cs (get_or ws 0 None) (get_or ts 0 None)) (get_or ws 1 None) (get_or ts 1 None)) (get_or ws 2 None) (get_or ts 2 None)) l2 in
    rows_relinked _ n (get_or ws 3 None) (get_or ts 3 None) l3 ∙ rows_relinked _ n (get_or ws 2 None) (get_or ts 2 None) l2 ∙ rows_relinked _ n (get_or ws 1 None) (get_or ts 1 None) l1 ∙ rows_relinked cs n (get_or ws 0 None) (get_or ts 0 None) l

pub length_laid : (cs : List Cell) (n : ℕ) (x : List ℕ) (ws : List (Option ℕ)) → length (laid_cells cs n x ws) ≡ length cs
length_laid cs n x ws = length_relinked_all (set cs n (record { corners = x; joins = ws })) ws (faces_of n) ∙ length-set cs n (record { corners = x; joins = ws })

-- the rows after
pub rows_laid : (cs : List Cell) (n : ℕ) (x : List ℕ) (ws : List (Option ℕ)) → n < length cs → rows (laid_cells cs n x ws) (n + 1) ≡ rows cs n ++ x ∷ []
rows_laid cs n x ws l =
    let c : Cell = record { corners = x; joins = ws } in
    let l1 : n + 1 ≤ length (set cs n c) = rw (length-set cs n c) (omega arith) in
    rows_relinked_all (set cs n c) (n + 1) ws (faces_of n) l1
    ∙ ap (map corners_of) (take_more_set cs n c l)
    ∙ map_push corners_of (take n cs) c

-- the joins after four relinks, where each half-face that is named has room: the last that names h decides
pub four_relinked_all : (cs : List Cell) (n : ℕ) (ws ts : List (Option ℕ)) → n ≤ length cs → Four cs n → Four (relinked_all cs ws ts) n
four_relinked_all cs n ws ts l f =
    let l1 : n ≤ length (relinked cs (get_or ws 0 None) (get_or ts 0 None)) = rw (length_relinked cs (get_or ws 0 None) (get_or ts 0 None)) l in
    let l2 : n ≤ length (relinked (relinked cs (get_or ws 0 None) (get_or ts 0 None)) (get_or ws 1 None) (get_or ts 1 None)) = rw (length_relinked (relinked cs (get_or ws 0 None) (get_or ts 0 None)) (get_or ws 1 None) (get_or ts 1 None)) l1 in
    let l3 : n ≤ length (relinked (relinked (relinked cs (get_or ws 0 None) (get_or ts 0 None)) (get_or ws 1 None) (get_or ts 1 None)) (get_or ws 2 None) (get_or ts 2 None)) = rw (length_relinked (relinked (relinked cs (get_or ws 0 None) (get_or ts 0 None)) (get_or ws 1 None) (get_or ts 1 None)) (get_or ws 2 None) (get_or ts 2 None)) l2 in
    four_relinked _ n (get_or ws 3 None) (get_or ts 3 None) l3 (four_relinked _ n (get_or ws 2 None) (get_or ts 2 None) l2 (four_relinked _ n (get_or ws 1 None) (get_or ts 1 None) l1 (four_relinked cs n (get_or ws 0 None) (get_or ts 0 None) l f)))

held_at : (ds : List Cell) (n m : ℕ) (w : Option ℕ) → m ≤ n → n ≤ length ds → Four ds n → ((g : ℕ) → w ≡ Some g → g < 4 * m) → Held ds w
held_at ds n m w b r f e g p =
    let k : g < 4 * m = e g p in
    let q : g / 4 < n = omega arith in
    let s = f (g / 4) q in
    (omega arith, omega arith)

pub joins_relinked_all : (cs : List Cell) (n m : ℕ) (ws ts : List (Option ℕ)) (h : ℕ) → m ≤ n → n ≤ length cs → Four cs n
    → ((i g : ℕ) → i < 4 → get_or ws i None ≡ Some g → g < 4 * m)
    → join_at (relinked_all cs ws ts) h ≡ cond (names (get_or ws 3 None) h) (get_or ts 3 None) (cond (names (get_or ws 2 None) h) (get_or ts 2 None) (cond (names (get_or ws 1 None) h) (get_or ts 1 None) (cond (names (get_or ws 0 None) h) (get_or ts 0 None) (join_at cs h))))
joins_relinked_all cs n m ws ts h b l f near =
    let c1 = relinked cs (get_or ws 0 None) (get_or ts 0 None) in
    let l1 : n ≤ length c1 = rw (length_relinked cs (get_or ws 0 None) (get_or ts 0 None)) l in
    let f1 : Four c1 n = four_relinked cs n (get_or ws 0 None) (get_or ts 0 None) l f in
    let c2 = relinked c1 (get_or ws 1 None) (get_or ts 1 None) in
    let l2 : n ≤ length c2 = rw (length_relinked c1 (get_or ws 1 None) (get_or ts 1 None)) l1 in
    let f2 : Four c2 n = four_relinked c1 n (get_or ws 1 None) (get_or ts 1 None) l1 f1 in
    let c3 = relinked c2 (get_or ws 2 None) (get_or ts 2 None) in
    let l3 : n ≤ length c3 = rw (length_relinked c2 (get_or ws 2 None) (get_or ts 2 None)) l2 in
    let f3 : Four c3 n = four_relinked c2 n (get_or ws 2 None) (get_or ts 2 None) l2 f2 in
    join_at_relinked c3 (get_or ws 3 None) (get_or ts 3 None) h (held_at c3 n m _ b l3 f3 (λ g. near 3 g (omega arith)))
    ∙ ap (λ (o : Option ℕ). cond (names (get_or ws 3 None) h) (get_or ts 3 None) o)
    (join_at_relinked c2 (get_or ws 2 None) (get_or ts 2 None) h (held_at c2 n m _ b l2 f2 (λ g. near 2 g (omega arith)))
    ∙ ap (λ (o : Option ℕ). cond (names (get_or ws 2 None) h) (get_or ts 2 None) o)
    (join_at_relinked c1 (get_or ws 1 None) (get_or ts 1 None) h (held_at c1 n m _ b l1 f1 (λ g. near 1 g (omega arith)))
    ∙ ap (λ (o : Option ℕ). cond (names (get_or ws 1 None) h) (get_or ts 1 None) o)
    (join_at_relinked cs (get_or ws 0 None) (get_or ts 0 None) h (held_at cs n m _ b l f (λ g. near 0 g (omega arith))))))

module _ (cs : List Cell) (n : ℕ) (x : List ℕ) (ws : List (Option ℕ)) (l : n < length cs) (fx : Fine x) (w4 : length ws ≡ 4) (f : Facts cs n) (met : Met (rows cs n) x ws) where
  len : length (rows cs n) ≡ n
  len = length_rows cs n f.room

  len' : length (rows cs n ++ x ∷ []) ≡ n + 1
  len' = length_push (rows cs n) x ∙ ap (λ (k : ℕ). k + 1) len

  at_old : (u : ℕ) → u < n → get_or (rows cs n ++ x ∷ []) u [] ≡ get_or (rows cs n) u []
  at_old u h = get_or_append_left (rows cs n) (x ∷ []) [] u (rw len h)

  at_new : get_or (rows cs n ++ x ∷ []) n [] ≡ x
  at_new = get_or_push (rows cs n) x [] n len

  old : (h v : ℕ) → h < 4 * n → on_face (rows cs n ++ x ∷ []) h v ≡ on_face (rows cs n) h v
  old h v a = ap (λ (y : List ℕ). on y (h % 4) v) (at_old (h / 4) (omega arith))

  new : (i v : ℕ) → i < 4 → on_face (rows cs n ++ x ∷ []) (4 * n + i) v ≡ on x i v
  new i v a = face_at (rows cs n ++ x ∷ []) (4 * n + i) n i v (omega arith) (omega arith) ∙ ap (λ (y : List ℕ). on y i v) at_new

  near : (i g : ℕ) → i < 4 → get_or ws i None ≡ Some g → g < 4 * n
  near i g a p = subst (λ (k : ℕ). g < 4 * k) len (met.sound i g a p).0

  uniq : (i k h : ℕ) → i < 4 → k < 4 → get_or ws i None ≡ Some h → get_or ws k None ≡ Some h → i ≡ k
  uniq i k h a b p q = faces_apart x fx i k a (λ v. (met.sound i h a p).1 v ∙ sym ((met.sound k h b q).1 v))

  room_1 : n + 1 ≤ length (set cs n (record { corners = x; joins = ws }))
  room_1 = rw (length-set cs n (record { corners = x; joins = ws })) (omega arith)

  four_1 : Four (set cs n (record { corners = x; joins = ws })) (n + 1)
  four_1 k h =
      ⊎_elim
      (λ p. ap (λ (i : ℕ). length (get_or (set cs n (record { corners = x; joins = ws })) i blank).joins) p ∙ ap (λ (y : Cell). length y.joins) (get_or-set_same cs n (record { corners = x; joins = ws }) blank l) ∙ w4)
      (λ ne. let q : k < n = omega arith in ap (λ (y : Cell). length y.joins) (get_or-set_other cs n k (record { corners = x; joins = ws }) blank ne) ∙ f.four k q)
      (cases_eq k n)

  chain : (h : ℕ) → join_at (laid_cells cs n x ws) h ≡ cond (names (get_or ws 3 None) h) (Some (4 * n + 3)) (cond (names (get_or ws 2 None) h) (Some (4 * n + 2)) (cond (names (get_or ws 1 None) h) (Some (4 * n + 1)) (cond (names (get_or ws 0 None) h) (Some (4 * n)) (join_at (set cs n (record { corners = x; joins = ws })) h))))
  chain h = joins_relinked_all (set cs n (record { corners = x; joins = ws })) (n + 1) n ws (faces_of n) h (omega arith) room_1 four_1 near

  no : (i k h : ℕ) → i < 4 → k < 4 → (k ≡ i → ⊥) → get_or ws i None ≡ Some h → names (get_or ws k None) h ≡ false
  no i k h a b ne p = unnamed (get_or ws k None) h (λ q. ne (uniq k i h b a q p))

  jw : (i h : ℕ) → i < 4 → get_or ws i None ≡ Some h → join_at (laid_cells cs n x ws) h ≡ Some (4 * n + i)
  jw i h a =
      by_four (λ (i : ℕ). get_or ws i None ≡ Some h → join_at (laid_cells cs n x ws) h ≡ Some (4 * n + i))
      (λ p. chain h ∙ cond-false _ _ _ (no 0 3 h (omega arith) (omega arith) (λ z. omega arith) p) ∙ cond-false _ _ _ (no 0 2 h (omega arith) (omega arith) (λ z. omega arith) p) ∙ cond-false _ _ _ (no 0 1 h (omega arith) (omega arith) (λ z. omega arith) p) ∙ cond-true _ _ _ (names_some (get_or ws 0 None) h p) ∙ ap Some (omega arith))
      (λ p. chain h ∙ cond-false _ _ _ (no 1 3 h (omega arith) (omega arith) (λ z. omega arith) p) ∙ cond-false _ _ _ (no 1 2 h (omega arith) (omega arith) (λ z. omega arith) p) ∙ cond-true _ _ _ (names_some (get_or ws 1 None) h p))
      (λ p. chain h ∙ cond-false _ _ _ (no 2 3 h (omega arith) (omega arith) (λ z. omega arith) p) ∙ cond-true _ _ _ (names_some (get_or ws 2 None) h p))
      (λ p. chain h ∙ cond-true _ _ _ (names_some (get_or ws 3 None) h p))
      i a

  none_of : (h : ℕ) → ((i : ℕ) → i < 4 → get_or ws i None ≡ Some h → ⊥) → join_at (laid_cells cs n x ws) h ≡ join_at (set cs n (record { corners = x; joins = ws })) h
  none_of h m =
      chain h ∙ cond-false _ _ _ (unnamed (get_or ws 3 None) h (m 3 (omega arith))) ∙ cond-false _ _ _ (unnamed (get_or ws 2 None) h (m 2 (omega arith)))
      ∙ cond-false _ _ _ (unnamed (get_or ws 1 None) h (m 1 (omega arith))) ∙ cond-false _ _ _ (unnamed (get_or ws 0 None) h (m 0 (omega arith)))

  jo : (h : ℕ) → h < 4 * n → ((i : ℕ) → i < 4 → get_or ws i None ≡ Some h → ⊥) → join_at (laid_cells cs n x ws) h ≡ join_at cs h
  jo h a m = none_of h m ∙ join_at_there cs n h (record { corners = x; joins = ws }) (λ e. omega arith)

  jn : (i : ℕ) → i < 4 → join_at (laid_cells cs n x ws) (4 * n + i) ≡ get_or ws i None
  jn i a =
      none_of (4 * n + i) (λ k b p. let q : 4 * n + i < 4 * n = near k (4 * n + i) b p in omega arith)
      ∙ join_at_lem (set cs n (record { corners = x; joins = ws })) (4 * n + i) n i (omega arith) (omega arith)
      ∙ ap (λ (y : Cell). get_or y.joins i None) (get_or-set_same cs n (record { corners = x; joins = ws }) blank l)

  exact' : Exact (on_face (rows cs n ++ x ∷ [])) (4 * n + 4) (join_at (laid_cells cs n x ws))
  exact' = append_exact (on_face (rows cs n)) (on_face (rows cs n ++ x ∷ [])) (4 * n) (join_at cs) (join_at (laid_cells cs n x ws)) (λ i. get_or ws i None)
      old
      (λ i k a b s. faces_apart x fx i k a (λ v. sym (new i v a) ∙ s v ∙ new k v b))
      (λ i g a p. (near i g a p, λ v. new i v a ∙ (met.sound i g a p).1 v))
      (λ i g a b s. met.whole i g a (subst (λ (k : ℕ). g < 4 * k) (sym len) b) (λ v. sym (new i v a) ∙ s v))
      jw jo jn f.exact

  -- a place of the new list is an old one or the last
  by_place : (P : List ℕ → Type 0) (u : ℕ) → u < n + 1 → (u < n → P (get_or (rows cs n) u [])) → P x → P (get_or (rows cs n ++ x ∷ []) u [])
  by_place P u h a b =
      ⊎_elim (λ p. subst P (sym at_new ∙ ap (λ (k : ℕ). get_or (rows cs n ++ x ∷ []) k []) (sym p)) b)
      (λ ne. let q : u < n = omega arith in subst P (sym (at_old u q)) (a q))
      (cases_eq u n)

  apart' : (u w : ℕ) → u < w → w < n + 1 → ((v : ℕ) → on (get_or (rows cs n ++ x ∷ []) u []) 4 v ≡ on (get_or (rows cs n ++ x ∷ []) w []) 4 v) → ⊥
  apart' u w a b s =
      let c : u < n = omega arith in
      ⊎_elim
      (λ p. met.fresh u (rw len c) (λ v. ap (λ (y : List ℕ). on y 4 v) (sym (at_old u c)) ∙ s v ∙ ap (λ (k : ℕ). on (get_or (rows cs n ++ x ∷ []) k []) 4 v) p ∙ ap (λ (y : List ℕ). on y 4 v) at_new))
      (λ ne. let d : w < n = omega arith in
      f.apart u w (a, rw len d, λ v. ap (λ (y : List ℕ). on y 4 v) (sym (at_old u c)) ∙ s v ∙ ap (λ (y : List ℕ). on y 4 v) (at_old w d)))
      (cases_eq w n)

  pub laid_facts : Facts (laid_cells cs n x ws) (n + 1)
  laid_facts =
      let e = sym (rows_laid cs n x ws l) in
      let m4 : 4 * n + 4 ≡ 4 * (n + 1) = omega arith in
      record {
        room = rw (length_relinked_all (set cs n (record { corners = x; joins = ws })) ws (faces_of n)) room_1;
        below = subst Below e (λ u i p. by_place (λ (y : List ℕ). get_or y i 0 < 4096) u (rw len' at p.0) (λ q. f.below u i (rw len q, p.1)) (fx.below i p.1));
        differ = subst Differ e (λ u i k p. by_place (λ (y : List ℕ). get_or y i 0 ≡ get_or y k 0 → ⊥) u (rw len' at p.0) (λ q z. f.differ u i k (rw len q, p.1, p.2, z)) (fx.differ i k p.1 p.2) p.3);
        apart = subst Apart e (λ u w p. apart' u w p.0 (rw len' at p.1) p.2);
        four = four_relinked_all (set cs n (record { corners = x; joins = ws })) (n + 1) ws (faces_of n) room_1 four_1;
        exact = subst (λ (y : List (List ℕ)). Exact (on_face y) (4 * (n + 1)) (join_at (laid_cells cs n x ws))) e
            (subst (λ (k : ℕ). Exact (on_face (rows cs n ++ x ∷ [])) k (join_at (laid_cells cs n x ws))) m4 exact');
      }
