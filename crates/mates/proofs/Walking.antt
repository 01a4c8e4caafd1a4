-- The walk round an edge from an open half-face: what it knows at each turn, and that it ends.
use Rattle.std.proofs.Common.{◌≡◌, ℕ, zero, suc, ◌+◌, ◌-◌, ◌*◌, ◌<◌, ◌≤◌, ◌⊎◌, List, length, Some, None, Option, sym, refl, ap, ◌∙◌, subst, inl, inr, ⊎_elim, arith}
use Rattle.rules.specs.Readings.{reads}
use Rattle.rules.specs.Joins.{Half, Joined, OnSkin, LawfulRows}
use Rattle.rules.specs.NetTests.{opposite}
use Rattle.rules.specs.Mates.{Beside, Mate}
use Rattle.rules.specs.Mates.Mate.{arrives, crosses}
use Rattle.rules.proofs.Opposites.{opposite_joined, joined_opposite}
use Rattle.rules.proofs.Webbed.{cases_option}
use Rattle.mates.specs.Edges.{Spans}
use Rattle.mates.proofs.Steps.{spans_beside, spans_across, half_beside, beside_of, beside_of_lem, beside_one, Reach, steps_end}

-- after so many steps from s the walk stands at h
pub record Walked (rs : List (List ℕ)) (u v s k h : ℕ) : Type 0 where
  pub reach : Reach rs u v s k h
  pub half : Half rs h
  pub spans : Spans (reads rs h) u v

-- and g is beside where it stands
pub record Turning (rs : List (List ℕ)) (u v s g : ℕ) : Type 0 where
  pub steps : ℕ
  pub at : ℕ
  pub walked : Walked rs u v s steps at
  pub beside : Beside rs u v at g

module _ (rs : List (List ℕ)) (u v s : ℕ) where
  pub turning_none : (g : ℕ) → Half rs s → Spans (reads rs s) u v → Beside rs u v s g → Turning rs u v s g
  turning_none g l w b = record { steps = 0; at = s; walked = record { reach = refl; half = l; spans = w }; beside = b }

  walked_more : (k h g o : ℕ) → Walked rs u v s k h → Beside rs u v h g → Joined rs g o → Walked rs u v s (suc k) o
  walked_more k h g o w b j = record {
    reach = (h, record { edge = w.spans; by = g; beside = b; across = j }, w.reach);
    half = j.there;
    spans = spans_across rs u v g o j (spans_beside rs u v h g w.spans.2 b);
  }

  -- across, and to the next half-face beside
  pub turning_across : (g o : ℕ) → Turning rs u v s g → Joined rs g o → Half rs o × Spans (reads rs o) u v
  turning_across g o t j = let w = walked_more t.steps t.at g o t.walked t.beside j in (w.half, w.spans)

  pub turning_more : (g o n : ℕ) → Turning rs u v s g → Joined rs g o → Beside rs u v o n → Turning rs u v s n
  turning_more g o n t j b = record { steps = suc t.steps; at = o; walked = walked_more t.steps t.at g o t.walked t.beside j; beside = b }

  -- what the walk arrives at is the mate of where it began
  mate_from : (m k h : ℕ) → Reach rs u v s k h → Mate rs u v h m → Mate rs u v s m
  mate_from m zero h p q = subst (λ (z : ℕ). Mate rs u v z m) p q
  mate_from m (suc k) h p q = mate_from m k p.0 p.2 (crosses p.1.beside p.1.across q)

  pub turning_open : (g : ℕ) → Turning rs u v s g → OnSkin rs g → Mate rs u v s g
  turning_open g t o = mate_from g t.steps t.at t.walked.reach (arrives t.beside o)

-- HOW OFTEN THE WALK STILL CROSSES, OF AT MOST k TIMES

abbrev crossed : (ℕ → ℕ) → Option ℕ → ℕ
crossed f None = 0
crossed f (Some o) = suc (f o)

abbrev pub left_at : List (List ℕ) → ℕ → ℕ → ℕ → ℕ → ℕ
left_at rs u v zero g = 0
left_at rs u v (suc k) g = crossed (λ o. left_at rs u v k (beside_of rs u v o)) (opposite rs g)

left_none : (rs : List (List ℕ)) (u v k g : ℕ) → opposite rs g ≡ None → left_at rs u v (suc k) g ≡ 0
left_none rs u v k g p = ap (crossed (λ o. left_at rs u v k (beside_of rs u v o))) p

left_some : (rs : List (List ℕ)) (u v k g o : ℕ) → opposite rs g ≡ Some o → left_at rs u v (suc k) g ≡ suc (left_at rs u v k (beside_of rs u v o))
left_some rs u v k g o p = ap (crossed (λ o. left_at rs u v k (beside_of rs u v o))) p

module _ (rs : List (List ℕ)) (law : LawfulRows rs) (u v s : ℕ) (skin : OnSkin rs s) where
  onward : (j x o : ℕ) → Walked rs u v s j x → opposite rs (beside_of rs u v x) ≡ Some o → Walked rs u v s (suc j) o
  onward j x o w p =
      let b = beside_of_lem rs law u v x w.half w.spans in
      walked_more rs u v s j x (beside_of rs u v x) o w b (opposite_joined rs (beside_of rs u v x) o (half_beside rs u v x (beside_of rs u v x) w.half b) p)

  -- one time more allowed changes nothing, or k more steps can be made
  settles : (k j x : ℕ) → Walked rs u v s j x
      → (left_at rs u v (suc k) (beside_of rs u v x) ≤ left_at rs u v k (beside_of rs u v x)) ⊎ ((y : ℕ) × Reach rs u v s (j + suc k) y)
  settles zero j x w =
      ⊎_elim
      (λ p. inl (omega (arith, left_none rs u v 0 (beside_of rs u v x) p)))
      (λ p. let e : suc j ≡ j + 1 = omega arith in inr (p.0, subst (λ (z : ℕ). Reach rs u v s z p.0) e (onward j x p.0 w p.1).reach))
      (cases_option (opposite rs (beside_of rs u v x)))
  settles (suc k) j x w =
      ⊎_elim
      (λ p. inl (omega (arith, left_none rs u v (suc k) (beside_of rs u v x) p)))
      (λ p. ⊎_elim
      (λ q. inl (omega (arith, left_some rs u v (suc k) (beside_of rs u v x) p.0 p.1, left_some rs u v k (beside_of rs u v x) p.0 p.1)))
      (λ q. let e : suc j + suc k ≡ j + suc (suc k) = omega arith in inr (q.0, subst (λ (z : ℕ). Reach rs u v s z q.0) e q.1))
      (settles k (suc j) p.0 (onward j x p.0 w p.1)))
      (cases_option (opposite rs (beside_of rs u v x)))

  falls_to : (k j x o : ℕ) → 4 * length rs ≡ suc k → Walked rs u v s j x → opposite rs (beside_of rs u v x) ≡ Some o → left_at rs u v (suc k) (beside_of rs u v o) < left_at rs u v (suc k) (beside_of rs u v x)
  falls_to k j x o e w p =
      ⊎_elim
      (λ q. omega (arith, left_some rs u v k (beside_of rs u v x) o p))
      (λ q. absurd (steps_end rs law u v s skin (suc j + suc k) q.0 (omega arith) q.1))
      (settles k (suc j) o (onward j x o w p))

  -- with each turn one crossing less is left
  pub left_falls : (g o n : ℕ) → Turning rs u v s g → Joined rs g o → Beside rs u v o n → left_at rs u v (4 * length rs) n < left_at rs u v (4 * length rs) g
  left_falls g o n t j b =
      let w = t.walked in
      let l = w.half in
      let a = turning_across rs u v s g o t j in
      let p : beside_of rs u v t.at ≡ g = beside_one rs law u v t.at (beside_of rs u v t.at) g w.half w.spans (beside_of_lem rs law u v t.at w.half w.spans) t.beside in
      let q : beside_of rs u v o ≡ n = beside_one rs law u v o (beside_of rs u v o) n a.0 a.1 (beside_of_lem rs law u v o a.0 a.1) b in
      let e : 4 * length rs ≡ suc (4 * length rs - 1) = omega arith in
      let f = falls_to (4 * length rs - 1) t.steps t.at o e w (ap (opposite rs) p ∙ joined_opposite rs law.no_three g o j) in
      subst (λ (z : ℕ). left_at rs u v z n < left_at rs u v z g) (sym e)
      (subst (λ (z : ℕ). left_at rs u v (suc (4 * length rs - 1)) z < left_at rs u v (suc (4 * length rs - 1)) g) q
      (subst (λ (z : ℕ). left_at rs u v (suc (4 * length rs - 1)) (beside_of rs u v o) < left_at rs u v (suc (4 * length rs - 1)) z) p f))
