-- Steps round an edge: to the half-face beside, and across to its opposite. A step can be gone back in one way only.
use Rattle.std.proofs.Common.{◌≡◌, ℕ, zero, suc, ◌+◌, ◌*◌, ◌/◌, ◌%◌, ◌<◌, ◌≤◌, min, List, [], length, get_or, sym, refl, ap, ◌∙◌, subst, ⊎_elim, arith}
use native.Mathlib.Nat.{min-eq_left, min-le_right}
use Rattle.std.proofs.lemmas.Bool.{cases_eq}
use Rattle.rules.specs.Rows.{vertices}
use Rattle.rules.specs.Readings.{Reading, face, reads}
use Rattle.rules.specs.Joins.{Half, Joined, OnSkin, LawfulRows}
use Rattle.rules.specs.Mates.{EdgeAt, Beside}
use Rattle.rules.proofs.Corners.{by_four}
use Rattle.rules.proofs.CornerNets.{Distinct, distinct}
use Rattle.rules.proofs.Crowding.{crowded}
use Rattle.rules.proofs.Opposites.{joined_sym}
use Rattle.mates.specs.Edges.{Apart, Spans, Across}
use Rattle.mates.proofs.EdgePlaces.{edge_on, on_edge}
use Rattle.mates.proofs.RowEdges.{face_apart, no_third, across_of, across_of_lem}

-- BESIDE AND ACROSS

-- a row and the list of its four vertices have the same half-faces
face_vertices : (x : List ℕ) (i : ℕ) → i < 4 → face (vertices x) i ≡ face x i
face_vertices x = by_four (λ (i : ℕ). face (vertices x) i ≡ face x i) refl refl refl refl

pub across_vertices : (x : List ℕ) (i u v j : ℕ) → Across (vertices x) i u v j → Across x i u v j
across_vertices x i u v j a = record { low = a.low; other = a.other; spans = subst (λ (z : Reading). Spans z u v) (face_vertices x j a.low) a.spans }

module _ (rs : List (List ℕ)) (u v : ℕ) where
  -- the edge goes along
  pub spans_beside : (h g : ℕ) → (u ≡ v → ⊥) → Beside rs u v h g → Spans (reads rs g) u v
  spans_beside h g n b = let o = edge_on (reads rs g) b.edge.0 u v b.edge.1 in (o.0, o.1, n)

  pub spans_across : (h g : ℕ) → Joined rs h g → Spans (reads rs h) u v → Spans (reads rs g) u v
  spans_across h g j s = ((j.same u).0 s.0, (j.same v).0 s.1, s.2)

  pub beside_sym : (h g : ℕ) → Spans (reads rs h) u v → Beside rs u v h g → Beside rs u v g h
  beside_sym h g s b = record { cell = sym b.cell; other = λ e. b.other (sym e); edge = on_edge (reads rs h) u v s }

  pub half_beside : (h g : ℕ) → Half rs h → Beside rs u v h g → Half rs g
  half_beside h g l b = let e = b.cell in omega arith

  -- by the row
  pub beside_across : (h j : ℕ) → Across (get_or rs (h / 4) []) (h % 4) u v j → Beside rs u v h (4 * (h / 4) + j)
  beside_across h j a =
      let l : j < 4 = a.low in
      let p : (4 * (h / 4) + j) / 4 ≡ h / 4 = omega arith in
      let q : (4 * (h / 4) + j) % 4 ≡ j = omega arith in
      let w = on_edge (face (get_or rs (h / 4) []) j) u v a.spans in
      record {
        cell = p;
        other = λ z. a.other (omega arith);
        edge = (
          w.0,
          subst (λ (t : ℕ). EdgeAt (face (get_or rs t []) ((4 * (h / 4) + j) % 4)) w.0 u v) (sym p)
              (subst (λ (i : ℕ). EdgeAt (face (get_or rs (h / 4) []) i) w.0 u v) (sym q) w.1),
        );
      }

-- the half-face beside h, as it computes
unfoldable pub beside_of : List (List ℕ) → ℕ → ℕ → ℕ → ℕ
beside_of rs u v h = 4 * (h / 4) + across_of (get_or rs (h / 4) []) (h % 4) u v

module _ (rs : List (List ℕ)) (law : LawfulRows rs) where
  pub row_distinct : (h : ℕ) → Half rs h → Distinct (get_or rs (h / 4) [])
  row_distinct h l = distinct (get_or rs (h / 4) []) (law.differ (h / 4) (omega arith))

  pub reads_apart : (h : ℕ) → Half rs h → Apart (reads rs h)
  reads_apart h l = face_apart (get_or rs (h / 4) []) (row_distinct h l) (h % 4) (omega arith)

  module _ (u v : ℕ) where
    -- the half-face beside h is there, and is one
    pub beside_of_lem : (h : ℕ) → Half rs h → Spans (reads rs h) u v → Beside rs u v h (beside_of rs u v h)
    unfolding beside_of
    beside_of_lem h l s =
        beside_across rs u v h (across_of (get_or rs (h / 4) []) (h % 4) u v)
        (across_of_lem (get_or rs (h / 4) []) (row_distinct h l) (h % 4) u v (omega arith) s)

    pub beside_one : (h g k : ℕ) → Half rs h → Spans (reads rs h) u v → Beside rs u v h g → Beside rs u v h k → g ≡ k
    beside_one h g k l s b c =
        ⊎_elim (λ e. e)
        (λ w.
        let p = b.cell in
        let q = c.cell in
        let x = subst (λ (t : ℕ). Spans (face (get_or rs t []) (g % 4)) u v) p (spans_beside rs u v h g s.2 b) in
        let y = subst (λ (t : ℕ). Spans (face (get_or rs t []) (k % 4)) u v) q (spans_beside rs u v h k s.2 c) in
        absurd (no_third (get_or rs (h / 4) []) (row_distinct h l) u v (h % 4) (g % 4) (k % 4) (omega arith) (omega arith) (omega arith)
        (λ e. b.other (omega arith)) (λ e. c.other (omega arith)) (λ e. w (omega arith)) s (x.0, x.1) (y.0, y.1)))
        (cases_eq g k)

-- STEPS

-- from y to the half-face beside it, and across to h
pub record Step (rs : List (List ℕ)) (u v y h : ℕ) : Type 0 where
  pub edge : Spans (reads rs y) u v
  pub by : ℕ
  pub beside : Beside rs u v y by
  pub across : Joined rs by h

-- k steps lead from s to h
abbrev pub Reach : List (List ℕ) → ℕ → ℕ → ℕ → ℕ → ℕ → Type 0
Reach rs u v s zero h = h ≡ s
Reach rs u v s (suc k) h = (y : ℕ) × Step rs u v y h × Reach rs u v s k y

module _ (rs : List (List ℕ)) (law : LawfulRows rs) (u v : ℕ) where
  step_one : (x y h : ℕ) → Step rs u v x h → Step rs u v y h → x ≡ y
  step_one x y h a b =
      let e : a.by ≡ b.by = law.no_three h a.by b.by (joined_sym rs a.by h a.across) (joined_sym rs b.by h b.across) in
      let c = subst (λ (z : ℕ). Beside rs u v z y) (sym e) (beside_sym rs u v y b.by b.edge b.beside) in
      beside_one rs law u v a.by x y a.across.half (spans_beside rs u v x a.by a.edge.2 a.beside) (beside_sym rs u v x a.by a.edge a.beside) c

  module _ (s : ℕ) (skin : OnSkin rs s) where
    never_back : (y : ℕ) → Step rs u v y s → ⊥
    never_back y a = skin.1 a.by (joined_sym rs a.by s a.across)

    -- from an open half-face no half-face is come to twice
    reach_one : (j k h : ℕ) → Reach rs u v s j h → Reach rs u v s k h → j ≡ k
    reach_one zero zero h p q = refl
    reach_one zero (suc k) h p q = absurd (never_back q.0 (subst (λ (z : ℕ). Step rs u v q.0 z) p q.1))
    reach_one (suc j) zero h p q = absurd (never_back p.0 (subst (λ (z : ℕ). Step rs u v p.0 z) q p.1))
    reach_one (suc j) (suc k) h p q =
        let e = step_one p.0 q.0 h p.1 q.1 in
        ap suc (reach_one j k p.0 p.2 (subst (λ (z : ℕ). Reach rs u v s k z) (sym e) q.2))

    reach_half : (k h : ℕ) → Reach rs u v s k h → Half rs h
    reach_half zero h p = subst (λ (z : ℕ). Half rs z) (sym p) skin.0
    reach_half (suc k) h p = p.1.across.there

    earlier : (k h : ℕ) → Reach rs u v s k h → (j : ℕ) → j ≤ k → (x : ℕ) × Reach rs u v s j x
    earlier zero h p j l = let e : 0 ≡ j = omega arith in (h, subst (λ (z : ℕ). Reach rs u v s z h) e p)
    earlier (suc k) h p j l =
        ⊎_elim (λ e. (h, subst (λ (z : ℕ). Reach rs u v s z h) (sym e) p)) (λ ne. earlier k p.0 p.2 j (omega arith)) (cases_eq j (suc k))

    -- so there are fewer steps than half-faces
    pub steps_end : (k h : ℕ) → 4 * length rs ≤ k → Reach rs u v s k h → ⊥
    steps_end k h l p =
        let at : (j : ℕ) → (x : ℕ) × Reach rs u v s (min j k) x = λ j. earlier k h p (min j k) (min-le_right j k) in
        crowded (4 * length rs) (λ j. (at j).0)
        (λ j b. reach_half (min j k) (at j).0 (at j).1)
        (λ i j a b e.
        let r = reach_one (min i k) (min j k) (at j).0 (subst (λ (z : ℕ). Reach rs u v s (min i k) z) e (at i).1) (at j).1 in
        let i≤ : i ≤ k = omega arith in
        let j≤ : j ≤ k = omega arith in
        sym (min-eq_left i≤) ∙ r ∙ min-eq_left j≤)
