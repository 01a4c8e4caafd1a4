-- Where all joined triangles read opposite ways, mates read their edge in opposite directions.
use Rattle.std.proofs.Common.{◌≡◌, ℕ, zero, suc, ◌+◌, ◌*◌, ◌/◌, ◌%◌, ◌<◌, ◌⊎◌, List, [], ◌∷◌, get_or, sym, refl, ap, ◌∙◌, subst, subst₂, inl, inr, ⊎_elim, arith}
use Rattle.rules.specs.Rows.{corner}
use Rattle.rules.specs.Readings.{Reading, face, reads, Alike, On, SameTriangle}
use Rattle.rules.specs.Joins.{Half, Joined, LawfulRows}
use Rattle.rules.specs.Nets.{AllOpposed}
use Rattle.rules.specs.Mates.{Runs, EdgeAt, Beside, Mate, MatesOpposed}
use Rattle.rules.specs.Mates.Mate.{arrives, crosses}
use Rattle.rules.proofs.Corners.{by_four}
use Rattle.rules.proofs.CornerNets.{Distinct}
use Rattle.mates.specs.Edges.{Apart}
use Rattle.mates.proofs.EdgePlaces.{on_edge, edge_swap, runs_one, runs_spans}
use Rattle.mates.proofs.Steps.{spans_beside, spans_across, row_distinct, reads_apart}

-- an edge place that does not run one way runs the other
other_way : (a : Reading) (d u v : ℕ) → (Runs a d u v → ⊥) → EdgeAt a d u v → Runs a d v u
other_way a d u v n s = ⊎_elim (λ p. absurd (n p)) (λ p. p) s

-- TWO HALF-FACES OF ONE CELL

-- which half-face reads from corner k to corner l
abbrev read_by : ℕ → ℕ → ℕ
read_by k l = get_or (4 ∷ 2 ∷ 3 ∷ 1 ∷ 3 ∷ 4 ∷ 0 ∷ 2 ∷ 1 ∷ 3 ∷ 4 ∷ 0 ∷ 2 ∷ 0 ∷ 1 ∷ 4 ∷ []) (4 * k + l) 4

-- half-face i reads from the corner at u to the corner at v
record Along (x : List ℕ) (i u v : ℕ) : Type 0 where
  tail : ℕ
  head : ℕ
  tail_low : tail < 4
  head_low : head < 4
  tail_is : u ≡ corner x tail
  head_is : v ≡ corner x head
  by : read_by tail head ≡ i

round : (x : List ℕ) (i a b c u v : ℕ) → a < 4 → b < 4 → c < 4 → read_by a b ≡ i → read_by b c ≡ i → read_by c a ≡ i
    → (e : ℕ) → Runs (record { p = corner x a; q = corner x b; r = corner x c }) e u v → Along x i u v
round x i a b c u v la lb lc ab bc ca zero r = record { tail = a; head = b; tail_low = la; head_low = lb; tail_is = r.0; head_is = r.1; by = ab }
round x i a b c u v la lb lc ab bc ca (suc zero) r = record { tail = b; head = c; tail_low = lb; head_low = lc; tail_is = r.0; head_is = r.1; by = bc }
round x i a b c u v la lb lc ab bc ca (suc (suc zero)) r = record { tail = c; head = a; tail_low = lc; head_low = la; tail_is = r.0; head_is = r.1; by = ca }
round x i a b c u v la lb lc ab bc ca (suc (suc (suc e))) r = absurd r

along : (x : List ℕ) (e u v i : ℕ) → i < 4 → Runs (face x i) e u v → Along x i u v
along x e u v = by_four (λ (i : ℕ). Runs (face x i) e u v → Along x i u v)
    (round x 0 1 2 3 u v (omega arith) (omega arith) (omega arith) refl refl refl e)
    (round x 1 2 0 3 u v (omega arith) (omega arith) (omega arith) refl refl refl e)
    (round x 2 3 0 1 u v (omega arith) (omega arith) (omega arith) refl refl refl e)
    (round x 3 0 2 1 u v (omega arith) (omega arith) (omega arith) refl refl refl e)

-- only one half-face of a row reads an edge in one direction
read_once : (x : List ℕ) → Distinct x → (i j e d u v : ℕ) → i < 4 → j < 4 → Runs (face x i) e u v → Runs (face x j) d u v → i ≡ j
read_once x w i j e d u v li lj p q =
    let a = along x e u v i li p in
    let b = along x d u v j lj q in
    let s = w a.tail b.tail a.tail_low b.tail_low (sym a.tail_is ∙ b.tail_is) in
    let t = w a.head b.head a.head_low b.head_low (sym a.head_is ∙ b.head_is) in
    sym a.by ∙ ap (λ (k : ℕ). read_by k a.head) s ∙ ap (read_by b.tail) t ∙ b.by

-- TWO HALF-FACES ON ONE TRIANGLE

abbrev reading : ℕ → ℕ → ℕ → Reading
reading a b c = record { p = a; q = b; r = c }

-- the edge from u to v, and the third vertex, in whatever rotation
abbrev From : Reading → ℕ → ℕ → ℕ → Type 0
From a u v w = (a ≡ reading u v w) ⊎ ((a ≡ reading v w u) ⊎ (a ≡ reading w u v))

made : (a b c d e f : ℕ) → a ≡ d → b ≡ e → c ≡ f → reading a b c ≡ reading d e f
made a b c d e f x y z = cc

third : (a : Reading) (e u v : ℕ) → Runs a e u v → (w : ℕ) × From a u v w
third a zero u v s = (a.r, inl (made a.p a.q a.r u v a.r (sym s.0) (sym s.1) refl))
third a (suc zero) u v s = (a.p, inr (inr (made a.p a.q a.r a.p u v refl (sym s.0) (sym s.1))))
third a (suc (suc zero)) u v s = (a.q, inr (inl (made a.p a.q a.r v a.q u (sym s.1) refl (sym s.0))))
third a (suc (suc (suc e))) u v s = absurd s

from_on : (a : Reading) (u v w : ℕ) → From a u v w → On w a
from_on a u v w f =
    ⊎_elim (λ e. subst (On w) (sym e) (inr (inr refl))) (⊎_elim (λ e. subst (On w) (sym e) (inr (inl refl))) (λ e. subst (On w) (sym e) (inl refl))) f

from_only : (a : Reading) (u v w z : ℕ) → From a u v w → On z a → (z ≡ u → ⊥) → (z ≡ v → ⊥) → z ≡ w
from_only a u v w z f o nu nv =
    ⊎_elim
    (λ e. ⊎_elim (λ p. absurd (nu p)) (⊎_elim (λ p. absurd (nv p)) (λ p. p)) (subst (On z) e o))
    (⊎_elim
    (λ e. ⊎_elim (λ p. absurd (nv p)) (⊎_elim (λ p. p) (λ p. absurd (nu p))) (subst (On z) e o))
    (λ e. ⊎_elim (λ p. p) (⊎_elim (λ p. absurd (nu p)) (λ p. absurd (nv p))) (subst (On z) e o)))
    f

from_apart : (a : Reading) (u v w : ℕ) → Apart a → From a u v w → (w ≡ u → ⊥) × (w ≡ v → ⊥)
from_apart a u v w d f =
    ⊎_elim
    (λ e. let s = subst Apart e d in (λ p. s.2 (sym p), λ p. s.1 (sym p)))
    (⊎_elim
    (λ e. let s = subst Apart e d in (λ p. s.1 p, λ p. s.0 (sym p)))
    (λ e. let s = subst Apart e d in (λ p. s.0 p, λ p. s.2 p)))
    f

-- rotations of one reading
alike_from : (a b : Reading) (u v w : ℕ) → From a u v w → From b u v w → Alike a b
alike_from a b u v w f g =
    ⊎_elim
    (λ x. ⊎_elim (λ y. at x y (inl refl)) (⊎_elim (λ y. at x y (inr (inr refl))) (λ y. at x y (inr (inl refl)))) g)
    (⊎_elim
    (λ x. ⊎_elim (λ y. at x y (inr (inl refl))) (⊎_elim (λ y. at x y (inl refl)) (λ y. at x y (inr (inr refl)))) g)
    (λ x. ⊎_elim (λ y. at x y (inr (inr refl))) (⊎_elim (λ y. at x y (inr (inl refl))) (λ y. at x y (inl refl))) g))
    f
  where
    at : {c d : Reading} → a ≡ c → b ≡ d → Alike c d → Alike a b
    at {c} {d} x y s = subst (λ (z : Reading). Alike z b) (sym x) (subst (Alike c) (sym y) s)

same_way : (a b : Reading) (e d u v : ℕ) → Apart a → SameTriangle a b → Runs a e u v → Runs b d u v → Alike a b
same_way a b e d u v w s p q =
    let f = third a e u v p in
    let g = third b d u v q in
    let n = from_apart a u v f.0 w f.1 in
    let z = from_only b u v g.0 f.0 g.1 ((s f.0).0 (from_on a u v f.0 f.1)) n.0 n.1 in
    alike_from a b u v f.0 f.1 (subst (From b u v) (sym z) g.1)

-- THE WALK

module _ (rs : List (List ℕ)) (law : LawfulRows rs) where
  beside_opposed : (u v h g e d : ℕ) → Half rs h → Beside rs u v h g → Runs (reads rs h) e u v → EdgeAt (reads rs g) d u v → Runs (reads rs g) d v u
  beside_opposed u v h g e d l b p s =
      other_way (reads rs g) d u v
      (λ q. let c = b.cell in
      let i = read_once (get_or rs (h / 4) []) (row_distinct rs law h l) (h % 4) (g % 4) e d u v (omega arith) (omega arith) p (subst (λ (t : ℕ). Runs (face (get_or rs t []) (g % 4)) d u v) c q) in
      b.other (omega arith))
      s

  module _ (all : AllOpposed rs) where
    across_opposed : (u v h g e d : ℕ) → Joined rs h g → Runs (reads rs h) e u v → EdgeAt (reads rs g) d u v → Runs (reads rs g) d v u
    across_opposed u v h g e d j p s =
        other_way (reads rs g) d u v (λ q. all h g j (same_way (reads rs h) (reads rs g) e d u v (reads_apart rs law h j.half) j.same p q)) s

    mate_opposed : (u v d m h : ℕ) → (u ≡ v → ⊥) → Mate rs u v h m → EdgeAt (reads rs m) d u v → Half rs h → (e : ℕ) → Runs (reads rs h) e u v → Runs (reads rs m) d v u
    mate_opposed u v d m h n (arrives b o) s l e p = beside_opposed u v h m e d l b p s
    mate_opposed u v d m h n (crosses {g = g} {o = o} b j q) s l e p =
        let r = beside_opposed u v h g e b.edge.0 l b p b.edge.1 in
        let k = on_edge (reads rs o) u v (spans_across rs u v g o j (spans_beside rs u v h g n b)) in
        let t = across_opposed v u g o b.edge.0 k.0 j r (edge_swap (reads rs o) k.0 u v k.1) in
        mate_opposed u v d m o n q s j.there k.0 t

  pub mates_opposed : AllOpposed rs → MatesOpposed rs
  mates_opposed all h e m d u v o w p =
      let s = runs_spans (reads rs h) e w.from w.to (reads_apart rs law h o.0) w.here in
      let r = runs_one (reads rs h) e w.from w.to u v w.here p in
      subst₂ (λ (x : ℕ) (y : ℕ). Runs (reads rs m) d y x) r.0 r.1
      (mate_opposed all w.from w.to d m h s.2 w.mate w.there o.0 e w.here)
