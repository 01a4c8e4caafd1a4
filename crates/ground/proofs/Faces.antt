-- The test of two triangles for the same vertices, and what a scan that uses it has seen.
use Rattle.std.proofs.Common.{◌≡◌, ℕ, ◌+◌, ◌-◌, ◌*◌, ◌<◌, ◌≤◌, Bool, true, false, not, ◌&&◌, ◌||◌, eqb, ◌⊎◌, List, [], get_or, Some, None, Option, sym, refl, ap, ◌∙◌, subst, inl, inr, ⊎_elim, arith}
use Rattle.std.proofs.lemmas.Bool.{eqb-true, eqb-false, cases_Bool, cases_lt, both_ways, and_parts, and_from, or_cases, or_left, or_right, not-true, cond-true, cond-false}
use Rattle.rules.specs.Tests.{on, on_face, SameOn}
use Rattle.rules.proofs.Corners.{by_four, on_other, both}
use Rattle.ground.specs.Searches.{Seen, Passed, within, same_face, picked, picked_all}
use Rattle.ground.proofs.Turned.{face_at}
use Rattle.rules.proofs.Options.{some_eq, some_none}

-- one corner w that passes, where v is that corner
one_on : (f : ℕ → Bool) (b : Bool) (w v : ℕ) → (b || f w) ≡ true → (not b && eqb w v) ≡ true → f v ≡ true
one_on f b w v p q =
    let n = and_parts (not b) (eqb w v) q in
    ⊎_elim (λ t. absurd (both_ways b (not-true b n.0) t)) (λ t. subst (λ (z : ℕ). f z ≡ true) (eqb-true w v n.1) t) (or_cases b (f w) p)

within_to : (x : List ℕ) (i : ℕ) (y : List ℕ) (j : ℕ) → within x i y j ≡ true → (v : ℕ) → on x i v ≡ true → on y j v ≡ true
within_to x i y j w v o =
    let a = and_parts (eqb i 0 || on y j (get_or x 0 0)) ((eqb i 1 || on y j (get_or x 1 0)) && ((eqb i 2 || on y j (get_or x 2 0)) && (eqb i 3 || on y j (get_or x 3 0)))) w in
    let b = and_parts (eqb i 1 || on y j (get_or x 1 0)) ((eqb i 2 || on y j (get_or x 2 0)) && (eqb i 3 || on y j (get_or x 3 0))) a.1 in
    let d = and_parts (eqb i 2 || on y j (get_or x 2 0)) (eqb i 3 || on y j (get_or x 3 0)) b.1 in
    ⊎_elim (λ p. one_on (on y j) (eqb i 0) (get_or x 0 0) v a.0 p) (λ q.
    ⊎_elim (λ p. one_on (on y j) (eqb i 1) (get_or x 1 0) v b.0 p) (λ q.
    ⊎_elim (λ p. one_on (on y j) (eqb i 2) (get_or x 2 0) v d.0 p) (λ p. one_on (on y j) (eqb i 3) (get_or x 3 0) v d.1 p)
    (or_cases (not (eqb i 2) && eqb (get_or x 2 0) v) (not (eqb i 3) && eqb (get_or x 3 0) v) q))
    (or_cases (not (eqb i 1) && eqb (get_or x 1 0) v) _ q))
    (or_cases (not (eqb i 0) && eqb (get_or x 0 0) v) _ o)

within_from : (x : List ℕ) (i : ℕ) (y : List ℕ) (j : ℕ) → ((v : ℕ) → on x i v ≡ true → on y j v ≡ true) → within x i y j ≡ true
within_from x i y j h =
    let at : (k : ℕ) → k < 4 → (eqb i k || on y j (get_or x k 0)) ≡ true = λ k l.
    ⊎_elim (λ e. or_left (eqb i k) (on y j (get_or x k 0)) e)
    (λ e. or_right (eqb i k) (on y j (get_or x k 0)) (h (get_or x k 0) (on_other x i k l (eqb-false i k e))))
    (cases_Bool (eqb i k)) in
    and_from _ _ (at 0 (omega arith)) (and_from _ _ (at 1 (omega arith)) (and_from _ _ (at 2 (omega arith)) (at 3 (omega arith))))

pub face_to : (x : List ℕ) (i : ℕ) (y : List ℕ) (j : ℕ) → same_face x i y j ≡ true → SameOn x i y j
unfolding same_face
face_to x i y j p v =
    let q = and_parts (within x i y j) (within y j x i) p in
    both (on x i v) (on y j v) (within_to x i y j q.0 v) (within_to y j x i q.1 v)

pub face_from : (x : List ℕ) (i : ℕ) (y : List ℕ) (j : ℕ) → SameOn x i y j → same_face x i y j ≡ true
unfolding same_face
face_from x i y j s = and_from (within x i y j) (within y j x i) (within_from x i y j (λ v p. sym (s v) ∙ p)) (within_from y j x i (λ v p. s v ∙ p))

pub face_not : (x : List ℕ) (i : ℕ) (y : List ℕ) (j : ℕ) → same_face x i y j ≡ false → SameOn x i y j → ⊥
face_not x i y j n s = both_ways (same_face x i y j) n (face_from x i y j s)

-- either one of the four half-faces of y is on triangle i of x, and is picked, or what was found before stays
pick_cases : (o : Option ℕ) (x : List ℕ) (i : ℕ) (y : List ℕ) (h : ℕ)
    → ((j : ℕ) × (j < 4) × (same_face x i y j ≡ true) × (picked o x i y h ≡ Some (h + j))) ⊎ (((j : ℕ) → j < 4 → same_face x i y j ≡ false) × (picked o x i y h ≡ o))
pick_cases o x i y h =
    ⊎_elim (λ p. inl (0, omega arith, p, cond-true _ _ _ p ∙ ap Some (omega arith))) (λ a.
    ⊎_elim (λ p. inl (1, omega arith, p, cond-false _ _ _ a ∙ cond-true _ _ _ p)) (λ b.
    ⊎_elim (λ p. inl (2, omega arith, p, cond-false _ _ _ a ∙ cond-false _ _ _ b ∙ cond-true _ _ _ p)) (λ d.
    ⊎_elim (λ p. inl (3, omega arith, p, cond-false _ _ _ a ∙ cond-false _ _ _ b ∙ cond-false _ _ _ d ∙ cond-true _ _ _ p)) (λ e.
    inr (by_four (λ (j : ℕ). same_face x i y j ≡ false) a b d e, cond-false _ _ _ a ∙ cond-false _ _ _ b ∙ cond-false _ _ _ d ∙ cond-false _ _ _ e))
    (cases_Bool (same_face x i y 3))) (cases_Bool (same_face x i y 2))) (cases_Bool (same_face x i y 1))) (cases_Bool (same_face x i y 0))

-- one row more
module _ (rs : List (List ℕ)) (x : List ℕ) (i n : ℕ) (o : Option ℕ) (y : List ℕ) (e : get_or rs n [] ≡ y) (s : Seen rs x i (4 * n) o) where
  at : (j v : ℕ) → j < 4 → on_face rs (4 * n + j) v ≡ on y j v
  at j v l = face_at rs (4 * n + j) n j v (omega arith) (omega arith) ∙ ap (λ (z : List ℕ). on z j v) e

  here : (j : ℕ) → j < 4 → same_face x i y j ≡ true → Seen rs x i (4 * (n + 1)) (Some (4 * n + j))
  here j l f = record {
    sound = λ g p.
        let q : g ≡ 4 * n + j = some_eq g (4 * n + j) (sym p) in
        (omega arith, λ v. face_to x i y j f v ∙ sym (at j v l) ∙ ap (λ (k : ℕ). on_face rs k v) (sym q));
    whole = λ p. absurd (some_none (4 * n + j) p);
  }

  still : ((j : ℕ) → j < 4 → same_face x i y j ≡ false) → Seen rs x i (4 * (n + 1)) o
  still f = record {
    sound = λ g p. let q = s.sound g p in let r : g < 4 * n = q.0 in (omega arith, q.1);
    whole = λ p g l t.
        ⊎_elim
        (λ (a : g < 4 * n). s.whole p g a t)
        (λ (a : 4 * n ≤ g). let q : g ≡ 4 * n + (g - 4 * n) = omega arith in
        let j4 : g - 4 * n < 4 = omega arith in
        face_not x i y (g - 4 * n) (f (g - 4 * n) j4) (λ v. t v ∙ ap (λ (k : ℕ). on_face rs k v) q ∙ at (g - 4 * n) v j4))
        (cases_lt g (4 * n));
  }

  seen_more : Seen rs x i (4 * (n + 1)) (picked o x i y (4 * n))
  seen_more =
      ⊎_elim
      (λ w. subst (Seen rs x i (4 * (n + 1))) (sym w.3) (here w.0 w.1 w.2))
      (λ w. subst (Seen rs x i (4 * (n + 1))) (sym w.1) (still w.0))
      (pick_cases o x i y (4 * n))

pub passed_more : (rs : List (List ℕ)) (x : List ℕ) (n : ℕ) (os : List (Option ℕ)) (y : List ℕ) → get_or rs n [] ≡ y → same_face y 4 x 4 ≡ false → Passed rs x n os → Passed rs x (n + 1) (picked_all os x y (4 * n))
passed_more rs x n os y e ne p = record {
  four = refl;
  fresh = λ t l s.
      ⊎_elim (λ a. p.fresh t a s)
      (λ a. let q : t ≡ n = omega arith in face_not y 4 x 4 ne (λ v. ap (λ (z : List ℕ). on z 4 v) (sym e) ∙ ap (λ (k : ℕ). on (get_or rs k []) 4 v) (sym q) ∙ s v))
      (cases_lt t n);
  seen = by_four (λ (i : ℕ). Seen rs x i (4 * (n + 1)) (get_or (picked_all os x y (4 * n)) i None))
      (seen_more rs x 0 n (get_or os 0 None) y e (p.seen 0 (omega arith)))
      (seen_more rs x 1 n (get_or os 1 None) y e (p.seen 1 (omega arith)))
      (seen_more rs x 2 n (get_or os 2 None) y e (p.seen 2 (omega arith)))
      (seen_more rs x 3 n (get_or os 3 None) y e (p.seen 3 (omega arith)));
}
