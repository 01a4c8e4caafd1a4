-- A letter and the numbers after it say one order. Assumes nothing.
use Rattle.std.proofs.Common.{◌≡◌, ℕ, ◌<◌, cond, eqb, List, [], ◌∷◌, ◌++◌, length, get_or, decimal, sym, refl, ap, ◌∙◌, subst, arith}
use Rattle.std.proofs.lemmas.Fmt.{decimal_injective}
use Rattle.worklist.specs.declared.order.Order.{Order}
use Rattle.worklist.specs.declared.order.Order.TheVariants.{Lay, Lift, Turn, Orient, CellsAtVertex, CellsAtEdge, Counts, Close}
use Rattle.worklist.specs.Written.{Small, letter_of, numbers_of, line_of, spaced}
use Rattle.worklist.specs.ReaderSteps.{Cut}
use Rattle.worklist.proofs.Cuts.{cut_front, cut_back, cut_number, spaced_seam}

abbrev remake : ℕ → List ℕ → Order
remake x ns =
    cond (eqb x 76) (Lay (get_or ns 0 0) (get_or ns 1 0) (get_or ns 2 0) (get_or ns 3 0))
    (cond (eqb x 88) (Lift (get_or ns 0 0))
    (cond (eqb x 84) (Turn (get_or ns 0 0))
    (cond (eqb x 79) Orient
    (cond (eqb x 75) (CellsAtVertex (get_or ns 0 0))
    (cond (eqb x 69) (CellsAtEdge (get_or ns 0 0) (get_or ns 1 0))
    (cond (eqb x 83) Counts (Close (get_or ns 0 0))))))))

-- the letter and the numbers tell the order, and the letter is no space and no byte 10
pub known : (o : Order) → (remake (letter_of o) (numbers_of o) ≡ o) × (32 < letter_of o)
known (Lay a b c d) = (refl, omega arith)
known (Lift t) = (refl, omega arith)
known (Turn t) = (refl, omega arith)
known Orient = (refl, omega arith)
known (CellsAtVertex v) = (refl, omega arith)
known (CellsAtEdge v w) = (refl, omega arith)
known Counts = (refl, omega arith)
known (Close n) = (refl, omega arith)

same_numbers : (ns ms : List ℕ) → Small ns → Small ms → spaced ns ≡ spaced ms → ns ≡ ms
same_numbers [] [] sn sm e = refl
same_numbers [] (m ∷ ms) sn sm e = absurd (omega (arith, ap length e))
same_numbers (n ∷ ns) [] sn sm e = absurd (omega (arith, ap length e))
same_numbers (n ∷ ns) (m ∷ ms) sn sm e =
    let w : decimal n ++ spaced ns ≡ decimal m ++ spaced ms = cc in
    let p = cut_number n (spaced ns) sn.0 (spaced_seam ns) in
    let q : Cut (decimal n ++ spaced ns) (decimal m) (spaced ms) = subst (λ (z : List ℕ). Cut z (decimal m) (spaced ms)) (sym w) (cut_number m (spaced ms) sm.0 (spaced_seam ms)) in
    let d = cut_front (decimal n ++ spaced ns) (decimal n) (spaced ns) (decimal m) (spaced ms) p q in
    let h : n ≡ m = decimal_injective n m (omega (arith, sn.0)) (omega (arith, sm.0)) d in
    let t = same_numbers ns ms sn.1 sm.1 (cut_back (decimal n ++ spaced ns) (decimal n) (spaced ns) (decimal m) (spaced ms) p q) in
    cc

-- a line writes one order
pub same_order : (o p : Order) → Small (numbers_of o) → Small (numbers_of p) → line_of o ≡ line_of p → o ≡ p
same_order o p so sp e =
    let l : letter_of o ∷ spaced (numbers_of o) ≡ letter_of p ∷ spaced (numbers_of p) = e in
    let f : letter_of o ≡ letter_of p = cc in
    let t : spaced (numbers_of o) ≡ spaced (numbers_of p) = cc in
    let n : numbers_of o ≡ numbers_of p = same_numbers (numbers_of o) (numbers_of p) so sp t in
    sym (known o).0 ∙ ap (λ (x : ℕ). remake x (numbers_of o)) f ∙ ap (λ (ns : List ℕ). remake (letter_of p) ns) n ∙ (known p).0
