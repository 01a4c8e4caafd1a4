-- The corners of a row: the test of a vertex tied to the readings and to the rows' vertices.
use Rattle.std.proofs.Common.{◌≡◌, ℕ, ◌<◌, Bool, true, false, not, ◌&&◌, ◌||◌, eqb, List, get_or, sym, refl, ◌∙◌, subst, inl, inr, ⊎_elim, arith}
use Rattle.std.proofs.lemmas.Bool.{eqb-true, eqb-false, eq-eqb, ne_eqb, cases_eq, cases_Bool, and_parts, and_from, or_cases, or_from, or_left, or_right, not-true, not_from_false, both_ways}
use Rattle.rules.specs.Rows.{In, SameVertices}
use Rattle.rules.specs.Readings.{face, On, SameTriangle}
use Rattle.rules.specs.Tests.{on, SameOn, Fine}

-- one of the first four numbers
pub by_four : (P : ℕ → Type 0) → P 0 → P 1 → P 2 → P 3 → (i : ℕ) → i < 4 → P i
by_four P a b c d i l =
    ⊎_elim (λ e. subst P (sym e) a)
    (λ n0. ⊎_elim (λ e. subst P (sym e) b)
    (λ n1. ⊎_elim (λ e. subst P (sym e) c)
    (λ n2. let e : i ≡ 3 = omega arith in subst P (sym e) d)
    (cases_eq i 2)) (cases_eq i 1)) (cases_eq i 0)

-- corner i is not on face i, and is on each other
pub on_self : (x : List ℕ) → Fine x → (i : ℕ) → i < 4 → on x i (get_or x i 0) ≡ false
on_self x f i l =
    by_four (λ (i : ℕ). on x i (get_or x i 0) ≡ false)
    (or_from _ _ (ne_eqb (get_or x 1 0) (get_or x 0 0) (λ e. f.differ 0 1 (omega arith) (omega arith) (sym e)))
    (or_from _ _ (ne_eqb (get_or x 2 0) (get_or x 0 0) (λ e. f.differ 0 2 (omega arith) (omega arith) (sym e)))
    (ne_eqb (get_or x 3 0) (get_or x 0 0) (λ e. f.differ 0 3 (omega arith) (omega arith) (sym e)))))
    (or_from _ _ (ne_eqb (get_or x 0 0) (get_or x 1 0) (f.differ 0 1 (omega arith) (omega arith)))
    (or_from _ _ (ne_eqb (get_or x 2 0) (get_or x 1 0) (λ e. f.differ 1 2 (omega arith) (omega arith) (sym e)))
    (ne_eqb (get_or x 3 0) (get_or x 1 0) (λ e. f.differ 1 3 (omega arith) (omega arith) (sym e)))))
    (or_from _ _ (ne_eqb (get_or x 0 0) (get_or x 2 0) (f.differ 0 2 (omega arith) (omega arith)))
    (or_from _ _ (ne_eqb (get_or x 1 0) (get_or x 2 0) (f.differ 1 2 (omega arith) (omega arith)))
    (ne_eqb (get_or x 3 0) (get_or x 2 0) (λ e. f.differ 2 3 (omega arith) (omega arith) (sym e)))))
    (or_from _ _ (ne_eqb (get_or x 0 0) (get_or x 3 0) (f.differ 0 3 (omega arith) (omega arith)))
    (or_from _ _ (ne_eqb (get_or x 1 0) (get_or x 3 0) (f.differ 1 3 (omega arith) (omega arith)))
    (or_from _ _ (ne_eqb (get_or x 2 0) (get_or x 3 0) (f.differ 2 3 (omega arith) (omega arith))) refl)))
    i l

pub on_other : (x : List ℕ) (k i : ℕ) → i < 4 → (k ≡ i → ⊥) → on x k (get_or x i 0) ≡ true
on_other x k i l =
    by_four (λ (i : ℕ). (k ≡ i → ⊥) → on x k (get_or x i 0) ≡ true)
    (λ n. or_left (not (eqb k 0) && eqb (get_or x 0 0) (get_or x 0 0)) ((not (eqb k 1) && eqb (get_or x 1 0) (get_or x 0 0)) || ((not (eqb k 2) && eqb (get_or x 2 0) (get_or x 0 0)) || (not (eqb k 3) && eqb (get_or x 3 0) (get_or x 0 0)))) (and_from _ _ (not_from_false (eqb k 0) (ne_eqb k 0 n)) (eq-eqb (get_or x 0 0) (get_or x 0 0) refl)))
    (λ n. or_right (not (eqb k 0) && eqb (get_or x 0 0) (get_or x 1 0)) _ (or_left (not (eqb k 1) && eqb (get_or x 1 0) (get_or x 1 0)) ((not (eqb k 2) && eqb (get_or x 2 0) (get_or x 1 0)) || (not (eqb k 3) && eqb (get_or x 3 0) (get_or x 1 0))) (and_from _ _ (not_from_false (eqb k 1) (ne_eqb k 1 n)) (eq-eqb (get_or x 1 0) (get_or x 1 0) refl))))
    (λ n. or_right (not (eqb k 0) && eqb (get_or x 0 0) (get_or x 2 0)) _ (or_right (not (eqb k 1) && eqb (get_or x 1 0) (get_or x 2 0)) _ (or_left (not (eqb k 2) && eqb (get_or x 2 0) (get_or x 2 0)) (not (eqb k 3) && eqb (get_or x 3 0) (get_or x 2 0)) (and_from _ _ (not_from_false (eqb k 2) (ne_eqb k 2 n)) (eq-eqb (get_or x 2 0) (get_or x 2 0) refl)))))
    (λ n. or_right (not (eqb k 0) && eqb (get_or x 0 0) (get_or x 3 0)) _ (or_right (not (eqb k 1) && eqb (get_or x 1 0) (get_or x 3 0)) _ (or_right (not (eqb k 2) && eqb (get_or x 2 0) (get_or x 3 0)) _ ((and_from _ _ (not_from_false (eqb k 3) (ne_eqb k 3 n)) (eq-eqb (get_or x 3 0) (get_or x 3 0) refl))))))
    i l

pub faces_apart : (x : List ℕ) → Fine x → (i k : ℕ) → i < 4 → ((v : ℕ) → on x i v ≡ on x k v) → i ≡ k
faces_apart x f i k l s =
    ⊎_elim (λ e. e) (λ n. absurd (both_ways (on x k (get_or x i 0)) (sym (s (get_or x i 0)) ∙ on_self x f i l) (on_other x k i l (λ e. n (sym e))))) (cases_eq i k)

-- v stands at a corner of the row other than i
abbrev pub At : List ℕ → ℕ → ℕ → Type 0
At x i v = (k : ℕ) × (k < 4) × (k ≡ i → ⊥) × (v ≡ get_or x k 0)

pub on_at : (x : List ℕ) (v i : ℕ) → i < 4 → On v (face x i) → At x i v
on_at x v = by_four (λ (i : ℕ). On v (face x i) → At x i v)
    (⊎_elim (λ e. (1, omega arith, λ q. omega arith, e)) (⊎_elim (λ e. (2, omega arith, λ q. omega arith, e)) (λ e. (3, omega arith, λ q. omega arith, e))))
    (⊎_elim (λ e. (2, omega arith, λ q. omega arith, e)) (⊎_elim (λ e. (0, omega arith, λ q. omega arith, e)) (λ e. (3, omega arith, λ q. omega arith, e))))
    (⊎_elim (λ e. (3, omega arith, λ q. omega arith, e)) (⊎_elim (λ e. (0, omega arith, λ q. omega arith, e)) (λ e. (1, omega arith, λ q. omega arith, e))))
    (⊎_elim (λ e. (0, omega arith, λ q. omega arith, e)) (⊎_elim (λ e. (2, omega arith, λ q. omega arith, e)) (λ e. (1, omega arith, λ q. omega arith, e))))

corner_on : (x : List ℕ) (i : ℕ) → i < 4 → (k : ℕ) → k < 4 → (k ≡ i → ⊥) → On (get_or x k 0) (face x i)
corner_on x = by_four (λ (i : ℕ). (k : ℕ) → k < 4 → (k ≡ i → ⊥) → On (get_or x k 0) (face x i))
    (by_four (λ (k : ℕ). (k ≡ 0 → ⊥) → On (get_or x k 0) (face x 0)) (λ n. absurd (n refl)) (λ n. inl refl) (λ n. inr (inl refl)) (λ n. inr (inr refl)))
    (by_four (λ (k : ℕ). (k ≡ 1 → ⊥) → On (get_or x k 0) (face x 1)) (λ n. inr (inl refl)) (λ n. absurd (n refl)) (λ n. inl refl) (λ n. inr (inr refl)))
    (by_four (λ (k : ℕ). (k ≡ 2 → ⊥) → On (get_or x k 0) (face x 2)) (λ n. inr (inl refl)) (λ n. inr (inr refl)) (λ n. absurd (n refl)) (λ n. inl refl))
    (by_four (λ (k : ℕ). (k ≡ 3 → ⊥) → On (get_or x k 0) (face x 3)) (λ n. inl refl) (λ n. inr (inr refl)) (λ n. inr (inl refl)) (λ n. absurd (n refl)))

pub at_on : (x : List ℕ) (v i : ℕ) → i < 4 → At x i v → On v (face x i)
at_on x v i l a = subst (λ (z : ℕ). On z (face x i)) (sym a.3) (corner_on x i l a.0 a.1 a.2)

-- the same by the test
pub on_to : (x : List ℕ) (v i : ℕ) → i < 4 → On v (face x i) → on x i v ≡ true
on_to x v i l o =
    let a = on_at x v i l o in
    subst (λ (z : ℕ). on x i z ≡ true) (sym a.3) (on_other x i a.0 a.1 (λ e. a.2 (sym e)))

one_at : (x : List ℕ) (i v k : ℕ) → k < 4 → (not (eqb i k) && eqb (get_or x k 0) v) ≡ true → At x i v
one_at x i v k l p =
    let q = and_parts (not (eqb i k)) (eqb (get_or x k 0) v) p in
    (k, l, λ e. eqb-false i k (not-true (eqb i k) q.0) (sym e), sym (eqb-true (get_or x k 0) v q.1))

pub test_at : (x : List ℕ) (i v : ℕ) → on x i v ≡ true → At x i v
test_at x i v o =
    ⊎_elim (λ p. one_at x i v 0 (omega arith) p) (λ q.
    ⊎_elim (λ p. one_at x i v 1 (omega arith) p) (λ q.
    ⊎_elim (λ p. one_at x i v 2 (omega arith) p) (λ p. one_at x i v 3 (omega arith) p)
    (or_cases (not (eqb i 2) && eqb (get_or x 2 0) v) (not (eqb i 3) && eqb (get_or x 3 0) v) q))
    (or_cases (not (eqb i 1) && eqb (get_or x 1 0) v) _ q))
    (or_cases (not (eqb i 0) && eqb (get_or x 0 0) v) _ o)

pub on_from : (x : List ℕ) (v i : ℕ) → i < 4 → on x i v ≡ true → On v (face x i)
on_from x v i l o = at_on x v i l (test_at x i v o)

-- two tests that imply one another
pub both : (a b : Bool) → (a ≡ true → b ≡ true) → (b ≡ true → a ≡ true) → a ≡ b
both a b f g =
    ⊎_elim (λ p. p ∙ sym (f p)) (λ p. ⊎_elim (λ q. absurd (both_ways a p (g q))) (λ q. p ∙ sym q) (cases_Bool b)) (cases_Bool a)

-- the same triangle, by the test and back
pub triangle_to : (x y : List ℕ) (i j : ℕ) → i < 4 → j < 4 → SameTriangle (face x i) (face y j) → SameOn x i y j
triangle_to x y i j li lj s v = both (on x i v) (on y j v) (λ p. on_to y v j lj ((s v).0 (on_from x v i li p))) (λ p. on_to x v i li ((s v).1 (on_from y v j lj p)))

pub triangle_from : (x y : List ℕ) (i j : ℕ) → i < 4 → j < 4 → SameOn x i y j → SameTriangle (face x i) (face y j)
triangle_from x y i j li lj s v = (λ o. on_from y v j lj (sym (s v) ∙ on_to x v i li o), λ o. on_from x v i li (s v ∙ on_to y v j lj o))

-- the vertices of a row, by the test and back
pub in_to : (x : List ℕ) (v : ℕ) → In v x → on x 4 v ≡ true
in_to x v w = subst (λ (z : ℕ). on x 4 z ≡ true) (sym w.2) (on_other x 4 w.0 w.1 (λ e. let l = w.1 in omega arith))

pub in_from : (x : List ℕ) (v : ℕ) → on x 4 v ≡ true → In v x
in_from x v p = let a = test_at x 4 v p in (a.0, a.1, a.3)

pub vertices_to : (x y : List ℕ) → SameVertices x y → SameOn x 4 y 4
vertices_to x y s v = both (on x 4 v) (on y 4 v) (λ p. in_to y v ((s v).0 (in_from x v p))) (λ p. in_to x v ((s v).1 (in_from y v p)))

pub vertices_from : (x y : List ℕ) → SameOn x 4 y 4 → SameVertices x y
vertices_from x y s v = (λ w. in_from y v (sym (s v) ∙ in_to x v w), λ w. in_from x v (s v ∙ in_to y v w))
