use Rattle.std.proofs.Common.{◌≡◌, ◌≢◌, ◌<◌, ℕ, List, All, IsNone, Option, Some, None, MatchOption, eqb, get_or, length, position, refl, sym, ◌∙◌, arith, rules}
use Rattle.std.proofs.lemmas.Bool.{eqb-true, eq-eqb, both_ways}
use Rattle.std.proofs.lemmas.List.Quantifiers.{position-Some}
use Rattle.rules.specs.NetTests.{corner_at}
use Rattle.rules.proofs.CornerNets.{corner_3}
use Rattle.nets.proofs.Crossing.{corner_first}
use Rattle.nets.proofs.corner_step.corner_at.Goals as goal

-- the first corner at v, or 3
first_or_3 : (x : List ℕ) (v r : ℕ) (o : Option ℕ) → length x ≡ 4 → o ≡ position (λ u. eqb u v) x → (IsNone o → All (λ u. u ≢ v) x) → (Q : ℕ → Type 0) → ((i : ℕ) → i < 4 → Q i → r ≡ i) → MatchOption o (r ≡ 3) Q → r ≡ corner_at x v
first_or_3 x v r (Some i) n p a Q f m =
    let w = position-Some (λ (u : ℕ). eqb u v) x i 0 (sym p) in
    let low = w.0 in
    f i (omega arith) m ∙ sym (corner_first x v i (omega arith) (eqb-true (get_or x i 0) v w.1) (λ k l e. both_ways (eqb (get_or x k 0) v) (w.2 k l) (eq-eqb (get_or x k 0) v e)))
first_or_3 x v r None n p a Q f m = m ∙ sym (corner_3 x v (a refl 0 0 (omega arith)) (a refl 1 0 (omega arith)) (a refl 2 0 (omega arith)))

pub returns : goal.returns
returns c = first_or_3 c.args.row c.args.v c.map_or.result c.first_corner.result (omega arith) c.first_corner.ensures.first c.first_corner.ensures.none _ (λ i l q. search rules) c.map_or.ensures
