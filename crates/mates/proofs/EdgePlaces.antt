-- The edge places of a reading, and the two vertices at each.
use Rattle.std.proofs.Common.{◌≡◌, ℕ, zero, suc, ◌<◌, sym, refl, ◌∙◌, inl, inr, ⊎_elim, arith}
use Rattle.rules.specs.Readings.{Reading, On}
use Rattle.rules.specs.Mates.{Runs, EdgeAt}
use Rattle.mates.specs.Edges.{Apart, Spans}

-- an edge place holds the two vertices, and two vertices have an edge place
pub edge_on : (a : Reading) (e u v : ℕ) → EdgeAt a e u v → On u a × On v a
edge_on a zero u v s = ⊎_elim (λ p. (inl p.0, inr (inl p.1))) (λ p. (inr (inl p.1), inl p.0)) s
edge_on a (suc zero) u v s = ⊎_elim (λ p. (inr (inl p.0), inr (inr p.1))) (λ p. (inr (inr p.1), inr (inl p.0))) s
edge_on a (suc (suc zero)) u v s = ⊎_elim (λ p. (inr (inr p.0), inl p.1)) (λ p. (inl p.1, inr (inr p.0))) s
edge_on a (suc (suc (suc e))) u v s = ⊎_elim (λ p. absurd p) (λ p. absurd p) s

pub on_edge : (a : Reading) (u v : ℕ) → Spans a u v → (e : ℕ) × EdgeAt a e u v
on_edge a u v s =
    ⊎_elim
    (λ p. ⊎_elim (λ q. absurd (s.2 (p ∙ sym q))) (⊎_elim (λ q. (0, inl (p, q))) (λ q. (2, inr (q, p)))) s.1)
    (⊎_elim
    (λ p. ⊎_elim (λ q. (0, inr (q, p))) (⊎_elim (λ q. absurd (s.2 (p ∙ sym q))) (λ q. (1, inl (p, q)))) s.1)
    (λ p. ⊎_elim (λ q. (2, inl (p, q))) (⊎_elim (λ q. (1, inr (q, p))) (λ q. absurd (s.2 (p ∙ sym q)))) s.1))
    s.0

pub runs_spans : (a : Reading) (e u v : ℕ) → Apart a → Runs a e u v → Spans a u v
runs_spans a zero u v d p = (inl p.0, inr (inl p.1), λ e. d.0 (sym p.0 ∙ e ∙ p.1))
runs_spans a (suc zero) u v d p = (inr (inl p.0), inr (inr p.1), λ e. d.1 (sym p.0 ∙ e ∙ p.1))
runs_spans a (suc (suc zero)) u v d p = (inr (inr p.0), inl p.1, λ e. d.2 (sym p.1 ∙ sym e ∙ p.0))
runs_spans a (suc (suc (suc e))) u v d p = absurd p

pub edge_swap : (a : Reading) (e u v : ℕ) → EdgeAt a e u v → EdgeAt a e v u
edge_swap a e u v s = ⊎_elim (λ p. inr p) (λ p. inl p) s

-- there are three edge places
pub edge_low : (a : Reading) (d u v : ℕ) → EdgeAt a d u v → d < 3
edge_low a zero u v x = omega arith
edge_low a (suc zero) u v x = omega arith
edge_low a (suc (suc zero)) u v x = omega arith
edge_low a (suc (suc (suc d))) u v x = ⊎_elim (λ p. absurd p) (λ p. absurd p) x

-- an edge place runs one way
pub runs_one : (a : Reading) (e u v w z : ℕ) → Runs a e u v → Runs a e w z → (u ≡ w) × (v ≡ z)
runs_one a zero u v w z p q = (p.0 ∙ sym q.0, p.1 ∙ sym q.1)
runs_one a (suc zero) u v w z p q = (p.0 ∙ sym q.0, p.1 ∙ sym q.1)
runs_one a (suc (suc zero)) u v w z p q = (p.0 ∙ sym q.0, p.1 ∙ sym q.1)
runs_one a (suc (suc (suc e))) u v w z p q = absurd p

-- two vertices have one edge place
clash_01 : (a : Reading) (u v : ℕ) → Apart a → EdgeAt a 0 u v → EdgeAt a 1 u v → ⊥
clash_01 a u v d x y =
    ⊎_elim (λ s. ⊎_elim (λ t. d.0 (sym s.0 ∙ t.0)) (λ t. d.2 (sym s.0 ∙ t.1)) y)
    (λ s. ⊎_elim (λ t. d.2 (sym s.0 ∙ t.1)) (λ t. d.0 (sym s.0 ∙ t.0)) y) x

clash_02 : (a : Reading) (u v : ℕ) → Apart a → EdgeAt a 0 u v → EdgeAt a 2 u v → ⊥
clash_02 a u v d x y =
    ⊎_elim (λ s. ⊎_elim (λ t. d.2 (sym s.0 ∙ t.0)) (λ t. d.1 (sym s.1 ∙ t.0)) y)
    (λ s. ⊎_elim (λ t. d.1 (sym s.1 ∙ t.0)) (λ t. d.2 (sym s.0 ∙ t.0)) y) x

clash_12 : (a : Reading) (u v : ℕ) → Apart a → EdgeAt a 1 u v → EdgeAt a 2 u v → ⊥
clash_12 a u v d x y =
    ⊎_elim (λ s. ⊎_elim (λ t. d.1 (sym s.0 ∙ t.0)) (λ t. d.0 (sym t.1 ∙ s.0)) y)
    (λ s. ⊎_elim (λ t. d.0 (sym t.1 ∙ s.0)) (λ t. d.1 (sym s.0 ∙ t.0)) y) x

pub edge_one : (a : Reading) (u v : ℕ) → Apart a → (d e : ℕ) → EdgeAt a d u v → EdgeAt a e u v → d ≡ e
edge_one a u v w zero zero x y = refl
edge_one a u v w zero (suc zero) x y = absurd (clash_01 a u v w x y)
edge_one a u v w zero (suc (suc zero)) x y = absurd (clash_02 a u v w x y)
edge_one a u v w zero (suc (suc (suc e))) x y = ⊎_elim (λ p. absurd p) (λ p. absurd p) y
edge_one a u v w (suc zero) zero x y = absurd (clash_01 a u v w y x)
edge_one a u v w (suc zero) (suc zero) x y = refl
edge_one a u v w (suc zero) (suc (suc zero)) x y = absurd (clash_12 a u v w x y)
edge_one a u v w (suc zero) (suc (suc (suc e))) x y = ⊎_elim (λ p. absurd p) (λ p. absurd p) y
edge_one a u v w (suc (suc zero)) zero x y = absurd (clash_02 a u v w y x)
edge_one a u v w (suc (suc zero)) (suc zero) x y = absurd (clash_12 a u v w y x)
edge_one a u v w (suc (suc zero)) (suc (suc zero)) x y = refl
edge_one a u v w (suc (suc zero)) (suc (suc (suc e))) x y = ⊎_elim (λ p. absurd p) (λ p. absurd p) y
edge_one a u v w (suc (suc (suc d))) e x y = ⊎_elim (λ p. absurd p) (λ p. absurd p) x
