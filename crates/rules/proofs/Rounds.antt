-- The corner labels of rings of three and four cells, by computation.
use Rattle.std.proofs.Common.{◌≡◌, ℕ, zero, suc, ◌+◌, ◌*◌, ◌/◌, ◌<◌, ◌≤◌, Bool, true, not, ◌&&◌, ◌||◌, eqb, List, [], ◌∷◌, map, length, get_or, Some, sym, refl, ap, ◌∙◌, ⊎_elim, arith}
use Rattle.std.proofs.lemmas.Bool.{eqb-true, eq-eqb, and_parts, both_ways, not-true, or_cases, cases_eq}
use Rattle.carry.specs.declared.net.Place.{Place}
use Rattle.carry.specs.declared.corner.Corner.{Corner}
use Rattle.carry.specs.Corners.{corner_meaning}
use Rattle.carry.specs.Digits.{different, number, composed, corner_kind}
use Rattle.carry.specs.Agreement.{Agrees, Grounded}
use Rattle.carry.specs.Webs.{Web}
use Rattle.carry.specs.FourDigits.{all, all_at}
use Rattle.rules.specs.Nets.{JoinedSides, CornerWeb, AllDiffer}
use Rattle.rules.specs.NetTests.{meets, lowest, opposite, corner_at, sent, crossing}
use Rattle.rules.specs.Pits.{three_round, four_round, Rings}
use Rattle.rules.proofs.Judged.{not_repeated}
use Rattle.rules.proofs.Opposites.{joined_faces, opposite_joined}
use Rattle.rules.proofs.Webbed.{meets_to}
use Rattle.rules.proofs.CornerNets.{distinct, crossing_sides, step_only}

-- a test of all numbers below n
every : ℕ → (ℕ → Bool) → Bool
every zero P = true
every (suc n) P = every n P && P n

every_at : (n : ℕ) (P : ℕ → Bool) → every n P ≡ true → (i : ℕ) → i < n → P i ≡ true
unfolding every
every_at zero P e i l = absurd (omega arith)
every_at (suc n) P e i l =
    let a = and_parts (every n P) (P n) e in
    ⊎_elim (λ q. ap P q ∙ a.1) (λ q. every_at n P a.0 i (omega arith)) (cases_eq i n)

-- rows whose vertices differ, and a corner net of them
module _ (rs : List (List ℕ)) (d : AllDiffer rs) (w : Web) (c : CornerWeb rs w) where
  step_is : (i s : ℕ) (p : Place) → JoinedSides rs i s p → w.steps i s ≡ crossing rs (4 * i + s) (4 * p.item + p.side)
  step_is i s p j =
      step_only (get_or rs i []) (get_or rs p.item []) s p.side (w.steps i s) (crossing rs (4 * i + s) (4 * p.item + p.side)) (distinct (get_or rs i []) (d i j.item)) (c.across i s p j) (crossing_sides rs d i s p j)

  -- the label over a join from side 2 of cell i to side 3 of cell k, where the step is 0132
  next : (ms : List ℕ) (i k : ℕ) → i < length rs → opposite rs (4 * i + 2) ≡ Some (4 * k + 3) → crossing rs (4 * i + 2) (4 * k + 3) ≡ 132 → Agrees w corner_kind ms → get_or ms k 0 ≡ composed (get_or ms i 0) 132
  next ms i k l o e a =
      let p : Place = record { item = k; side = 3 } in
      let j : JoinedSides rs i 2 p = record { item = l; side = omega arith; entered = omega arith; joined = opposite_joined rs (4 * i + 2) (4 * k + 3) (omega arith) o } in
      a i 2 p ((c.cells.joins i 2 p).1 j) ∙ ap (composed (get_or ms i 0)) (step_is i 2 p j ∙ e)

  -- labels that agree over each pair of half-faces that meet
  abbrev over : List ℕ → ℕ → ℕ → Bool
  over ms h g = not (meets rs h g) || eqb (get_or ms (g / 4) 0) (composed (get_or ms (h / 4) 0) (crossing rs h g))

  agrees_by : (ms : List ℕ) → every (4 * length rs) (λ h. every (4 * length rs) (over ms h)) ≡ true → Agrees w corner_kind ms
  agrees_by ms t i s p e =
      let j = (c.cells.joins i s p).0 e in
      let h = 4 * i + s in
      let g = 4 * p.item + p.side in
      let a = j.side in
      let b = j.entered in
      let m = meets_to rs h g (λ q. j.joined.other (sym q)) (joined_faces rs h g j.joined) in
      let t1 = every_at (4 * length rs) (λ h. every (4 * length rs) (over ms h)) t h j.joined.half in
      let t2 = every_at (4 * length rs) (over ms h) t1 g j.joined.there in
      let z : get_or ms (g / 4) 0 ≡ composed (get_or ms (h / 4) 0) (crossing rs h g) =
      ⊎_elim (λ q. absurd (both_ways (meets rs h g) (not-true (meets rs h g) q) m)) (λ q. eqb-true _ _ q) (or_cases (not (meets rs h g)) _ t2) in
      let e1 : h / 4 ≡ i = omega arith in
      let e2 : g / 4 ≡ p.item = omega arith in
      ap (λ (k : ℕ). get_or ms k 0) (sym e2) ∙ z ∙ ap (λ (k : ℕ). composed (get_or ms k 0) (crossing rs h g)) e1 ∙ ap (composed (get_or ms i 0)) (sym (step_is i s p j))

differ_three : AllDiffer three_round
differ_three zero l = not_repeated (0 ∷ 1 ∷ 2 ∷ 3 ∷ []) refl
differ_three (suc zero) l = not_repeated (0 ∷ 1 ∷ 3 ∷ 4 ∷ []) refl
differ_three (suc (suc zero)) l = not_repeated (0 ∷ 1 ∷ 4 ∷ 2 ∷ []) refl
differ_three (suc (suc (suc t))) l = absurd (omega arith)

differ_four : AllDiffer four_round
differ_four zero l = not_repeated (0 ∷ 1 ∷ 2 ∷ 3 ∷ []) refl
differ_four (suc zero) l = not_repeated (0 ∷ 1 ∷ 3 ∷ 4 ∷ []) refl
differ_four (suc (suc zero)) l = not_repeated (0 ∷ 1 ∷ 4 ∷ 5 ∷ []) refl
differ_four (suc (suc (suc zero))) l = not_repeated (0 ∷ 1 ∷ 5 ∷ 2 ∷ []) refl
differ_four (suc (suc (suc (suc t)))) l = absurd (omega arith)

-- three steps round the ring change every label
round_test : all (λ a b c d. not (eqb (composed (composed (composed (number a b c d) 132) 132) 132) (number a b c d))) ≡ true
unfolding different composed
round_test = refl

-- the join from cell i to cell k, and its step
abbrev Over : List (List ℕ) → ℕ → ℕ → Type 0
Over rs i k = (opposite rs (4 * i + 2) ≡ Some (4 * k + 3)) × (crossing rs (4 * i + 2) (4 * k + 3) ≡ 132)

over_three : Over three_round 0 1 × Over three_round 1 2 × Over three_round 2 0
unfolding meets lowest opposite corner_at sent crossing
over_three = ((refl, refl), (refl, refl), (refl, refl))

over_four : Over four_round 0 1 × Over four_round 1 2 × Over four_round 2 3
unfolding meets lowest opposite corner_at sent crossing
over_four = ((refl, refl), (refl, refl), (refl, refl))

odd_ring : (w : Web) → CornerWeb three_round w → (xs : List Corner) → 3 ≤ length xs → Agrees w corner_kind (map corner_meaning xs) → ⊥
odd_ring w c [] l a = absurd (omega arith)
odd_ring w c (x ∷ xs) l a =
    let ms = map corner_meaning (x ∷ xs) in
    let m = corner_meaning x in
    let e1 = next three_round differ_three w c ms 0 1 (omega arith) over_three.0.0 over_three.0.1 a in
    let e2 = next three_round differ_three w c ms 1 2 (omega arith) over_three.1.0 over_three.1.1 a in
    let e3 = next three_round differ_three w c ms 2 0 (omega arith) over_three.2.0 over_three.2.1 a in
    let e : m ≡ composed (composed (composed m 132) 132) 132 = e3 ∙ ap (λ (n : ℕ). composed n 132) (e2 ∙ ap (λ (n : ℕ). composed n 132) e1) in
    let t = all_at (λ a b c d. not (eqb (composed (composed (composed (number a b c d) 132) 132) 132) (number a b c d))) round_test x.a x.b x.c x.d x.lawful in
    both_ways _ (not-true _ t) (eq-eqb _ _ (sym e))

even_test : every 16 (λ h. every 16 (λ g. not (meets four_round h g) || eqb (get_or (123 ∷ 132 ∷ 123 ∷ 132 ∷ []) (g / 4) 0) (composed (get_or (123 ∷ 132 ∷ 123 ∷ 132 ∷ []) (h / 4) 0) (crossing four_round h g)))) ≡ true
unfolding every meets corner_at sent crossing composed
even_test = refl

by_132 : (composed 123 132 ≡ 132) × (composed 132 132 ≡ 123)
unfolding composed
by_132 = (refl, refl)

only_ring : (w : Web) → CornerWeb four_round w → (ms : List ℕ) → Agrees w corner_kind ms → Grounded w corner_kind ms → (get_or ms 0 0 ≡ 123) × (get_or ms 1 0 ≡ 132) × (get_or ms 2 0 ≡ 123) × (get_or ms 3 0 ≡ 132)
only_ring w c ms a g =
    let e0 = g 0 (omega (arith, c.cells.items), λ j r. omega arith) in
    let e1 = next four_round differ_four w c ms 0 1 (omega arith) over_four.0.0 over_four.0.1 a ∙ ap (λ (n : ℕ). composed n 132) e0 ∙ by_132.0 in
    let e2 = next four_round differ_four w c ms 1 2 (omega arith) over_four.1.0 over_four.1.1 a ∙ ap (λ (n : ℕ). composed n 132) e1 ∙ by_132.1 in
    let e3 = next four_round differ_four w c ms 2 3 (omega arith) over_four.2.0 over_four.2.1 a ∙ ap (λ (n : ℕ). composed n 132) e2 ∙ by_132.0 in
    (e0, e1, e2, e3)

pub rings : Rings
rings = record { odd = odd_ring; even = λ w c. agrees_by four_round differ_four w c (123 ∷ 132 ∷ 123 ∷ 132 ∷ []) even_test; only = only_ring }
