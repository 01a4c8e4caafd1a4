-- The edges of a row: two of its half-faces have each.
use Rattle.std.proofs.Common.{◌≡◌, ℕ, ◌+◌, ◌<◌, Bool, cond, not, ◌&&◌, eqb, ◌⊎◌, List, Decides, sym, ap, ◌∙◌, subst, inl, inr, ⊎_elim, arith}
use Rattle.std.proofs.lemmas.Bool.{cases_eq, cases_Bool, cond-true, cond-false, both_ways}
use Rattle.std.proofs.lemmas.Bool.Decides.{Decides-eqb, Decides-not, Decides-and}
use Rattle.rules.specs.Rows.{corner}
use Rattle.rules.specs.Readings.{face, On}
use Rattle.rules.proofs.Corners.{by_four, on_at, at_on}
use Rattle.rules.proofs.CornerNets.{Distinct}
use Rattle.mates.specs.Edges.{Apart, Spans, Free, Across}

-- a number below four that is none of three others
fourth : (i j k a : ℕ) → i < 4 → j < 4 → k < 4 → a < 4 → (i ≡ j → ⊥) → (i ≡ k → ⊥) → (j ≡ k → ⊥) → (a ≡ i → ⊥) → (a ≡ j → ⊥) → (a ≡ k → ⊥) → a + (i + (j + k)) ≡ 6
fourth i j k a li lj lk la p q r s t w = omega arith

-- THE FREE CORNER, AS IT COMPUTES

abbrev free_test : List ℕ → ℕ → ℕ → ℕ → ℕ → Bool
free_test x i u v k = not (eqb k i) && (not (eqb (corner x k) u) && not (eqb (corner x k) v))

pub decides_free : (x : List ℕ) (i u v k : ℕ) → Decides (free_test x i u v k) (Free x i u v k)
decides_free x i u v k =
    let m = eqb k i in
    let a = eqb (corner x k) u in
    let b = eqb (corner x k) v in
    let q = Decides-and (not a) (not b) (Decides-not a (Decides-eqb (corner x k) u)) (Decides-not b (Decides-eqb (corner x k) v)) in
    let r = Decides-and (not m) (not a && not b) (Decides-not m (Decides-eqb k i)) q in
    (λ e. let w = r.0 e in (w.0, w.1.0, w.1.1), λ f. r.1 (f.0, (f.1, f.2)))

abbrev pub across_of : List ℕ → ℕ → ℕ → ℕ → ℕ
across_of x i u v = cond (free_test x i u v 0) 0 (cond (free_test x i u v 1) 1 (cond (free_test x i u v 2) 2 3))

by_test : (P : ℕ → Type 0) {F : Type 0} {b : Bool} {m n : ℕ} → Decides b F → (F → P m) → ((F → ⊥) → P n) → P (cond b m n)
by_test P {F} {b} {m} {n} t f g =
    ⊎_elim
    (λ e. subst P (sym (cond-true b m n e)) (f (t.0 e)))
    (λ e. subst P (sym (cond-false b m n e)) (g (λ x. both_ways b e (t.1 x))))
    (cases_Bool b)

module _ (x : List ℕ) (d : Distinct x) where
  pub face_apart : (i : ℕ) → i < 4 → Apart (face x i)
  face_apart = by_four (λ (i : ℕ). Apart (face x i))
      (not_one 1 2 (omega arith) (omega arith) (λ e. omega arith), not_one 2 3 (omega arith) (omega arith) (λ e. omega arith), not_one 1 3 (omega arith) (omega arith) (λ e. omega arith))
      (not_one 2 0 (omega arith) (omega arith) (λ e. omega arith), not_one 0 3 (omega arith) (omega arith) (λ e. omega arith), not_one 2 3 (omega arith) (omega arith) (λ e. omega arith))
      (not_one 3 0 (omega arith) (omega arith) (λ e. omega arith), not_one 0 1 (omega arith) (omega arith) (λ e. omega arith), not_one 3 1 (omega arith) (omega arith) (λ e. omega arith))
      (not_one 0 2 (omega arith) (omega arith) (λ e. omega arith), not_one 2 1 (omega arith) (omega arith) (λ e. omega arith), not_one 0 1 (omega arith) (omega arith) (λ e. omega arith))
    where
      not_one : (a b : ℕ) → a < 4 → b < 4 → (a ≡ b → ⊥) → corner x a ≡ corner x b → ⊥
      not_one a b l k n e = n (d a b l k e)

  -- three half-faces of a row never share two vertices
  pub no_third : (u v i j k : ℕ) → i < 4 → j < 4 → k < 4 → (i ≡ j → ⊥) → (i ≡ k → ⊥) → (j ≡ k → ⊥)
      → Spans (face x i) u v → On u (face x j) × On v (face x j) → On u (face x k) × On v (face x k) → ⊥
  no_third u v i j k li lj lk p q r s t w =
      let a = on_at x u i li s.0 in
      let b = on_at x v i li s.1 in
      let aj = on_at x u j lj t.0 in
      let bj = on_at x v j lj t.1 in
      let ak = on_at x u k lk w.0 in
      let bk = on_at x v k lk w.1 in
      let eaj : a.0 ≡ aj.0 = d a.0 aj.0 a.1 aj.1 (sym a.3 ∙ aj.3) in
      let ebj : b.0 ≡ bj.0 = d b.0 bj.0 b.1 bj.1 (sym b.3 ∙ bj.3) in
      let eak : a.0 ≡ ak.0 = d a.0 ak.0 a.1 ak.1 (sym a.3 ∙ ak.3) in
      let ebk : b.0 ≡ bk.0 = d b.0 bk.0 b.1 bk.1 (sym b.3 ∙ bk.3) in
      let sa = fourth i j k a.0 li lj lk a.1 p q r a.2 (λ e. aj.2 (sym eaj ∙ e)) (λ e. ak.2 (sym eak ∙ e)) in
      let sb = fourth i j k b.0 li lj lk b.1 p q r b.2 (λ e. bj.2 (sym ebj ∙ e)) (λ e. bk.2 (sym ebk ∙ e)) in
      let same : a.0 ≡ b.0 = omega (arith, sa, sb) in
      s.2 (a.3 ∙ ap (corner x) same ∙ sym b.3)

  module _ (i u v : ℕ) (l : i < 4) (s : Spans (face x i) u v) where
    -- the half-face without a free corner has u and v
    pub across_free : (j : ℕ) → j < 4 → Free x i u v j → Across x i u v j
    across_free j k f =
        let a = on_at x u i l s.0 in
        let b = on_at x v i l s.1 in
        record {
          low = k;
          other = f.0;
          spans = (
            at_on x u j k (a.0, a.1, λ e. f.1 (ap (corner x) (sym e) ∙ sym a.3), a.3),
            at_on x v j k (b.0, b.1, λ e. f.2 (ap (corner x) (sym e) ∙ sym b.3), b.3),
            s.2,
          );
        }

    free_at : (k : ℕ) → k < 4 → (k ≡ i → ⊥) → (k ≡ (on_at x u i l s.0).0 → ⊥) → (k ≡ (on_at x v i l s.1).0 → ⊥) → Free x i u v k
    free_at k lk n p q =
        let a = on_at x u i l s.0 in
        let b = on_at x v i l s.1 in
        (n, λ e. p (d k a.0 lk a.1 (e ∙ a.3)), λ e. q (d k b.0 lk b.1 (e ∙ b.3)))

    taken_at : (k : ℕ) → k < 4 → (Free x i u v k → ⊥) → (k ≡ i) ⊎ ((k ≡ (on_at x u i l s.0).0) ⊎ (k ≡ (on_at x v i l s.1).0))
    taken_at k lk f =
        ⊎_elim (λ e. inl e)
        (λ n. inr (⊎_elim (λ e. inl e)
        (λ p. ⊎_elim (λ e. inr e) (λ q. absurd (f (free_at k lk n p q))) (cases_eq k (on_at x v i l s.1).0))
        (cases_eq k (on_at x u i l s.0).0)))
        (cases_eq k i)

    -- of the four corners one is free
    pub free_last : (Free x i u v 0 → ⊥) → (Free x i u v 1 → ⊥) → (Free x i u v 2 → ⊥) → Free x i u v 3
    free_last f0 f1 f2 =
        let a = on_at x u i l s.0 in
        let b = on_at x v i l s.1 in
        let w = last i a.0 b.0 a.2 b.2 (λ e. s.2 (a.3 ∙ ap (corner x) e ∙ sym b.3))
        (taken_at 0 (omega arith) f0) (taken_at 1 (omega arith) f1) (taken_at 2 (omega arith) f2) in
        free_at 3 (omega arith) w.0 w.1 w.2
      where
        last : (i a b : ℕ) → (a ≡ i → ⊥) → (b ≡ i → ⊥) → (a ≡ b → ⊥) → (0 ≡ i) ⊎ ((0 ≡ a) ⊎ (0 ≡ b)) → (1 ≡ i) ⊎ ((1 ≡ a) ⊎ (1 ≡ b)) → (2 ≡ i) ⊎ ((2 ≡ a) ⊎ (2 ≡ b)) → (3 ≡ i → ⊥) × (3 ≡ a → ⊥) × (3 ≡ b → ⊥)
        last i a b p q r x y z = (λ e. omega arith, λ e. omega arith, λ e. omega arith)

    pub across_of_lem : Across x i u v (across_of x i u v)
    across_of_lem =
        by_test (Across x i u v) (decides_free x i u v 0) (across_free 0 (omega arith))
        (λ n0. by_test (Across x i u v) (decides_free x i u v 1) (across_free 1 (omega arith))
        (λ n1. by_test (Across x i u v) (decides_free x i u v 2) (across_free 2 (omega arith))
        (λ n2. across_free 3 (omega arith) (free_last n0 n1 n2))))
