-- How a text is cut at its bytes 10. Assumes nothing.
use Rattle.std.proofs.Common.{◌≡◌, ℕ, suc, ◌^◌, ◌<◌, List, [], ◌∷◌, ◌++◌, None, decimal, sym, refl, ◌∙◌, subst, suc-le-suc, arith}
use Rattle.std.proofs.lemmas.Str.Parse.{digit_at}
use Rattle.std.proofs.lemmas.Fmt.{decimal_is_IsNumeral}
use Rattle.worklist.specs.declared.order.Order.{Order}
use Rattle.worklist.specs.Written.{Small, numbers_of, line_of, spaced}
use Rattle.worklist.specs.Lists.{Begins, NoneBegins}
use Rattle.worklist.specs.ReaderSteps.{Lacks, Ended, Says}
use Rattle.worklist.proofs.Letters.{known, same_order}

-- no byte of the list is 10
abbrev Unbroken : List ℕ → Type 0
Unbroken [] = Unit {0}
Unbroken (x ∷ xs) = (x ≡ 10 → ⊥) × Unbroken xs

unbroken_by : (s : List ℕ) → Lacks 10 s → Unbroken s
unbroken_by [] h = tt
unbroken_by (x ∷ xs) h = (λ e. h 0 (omega arith) e, unbroken_by xs (λ k l e. h (suc k) (suc-le-suc l) e))

unbroken_append : (a b : List ℕ) → Unbroken a → Unbroken b → Unbroken (a ++ b)
unbroken_append [] b p q = q
unbroken_append (x ∷ xs) b p q = (p.0, unbroken_append xs b p.1 q)

unbroken_mid : (a b : List ℕ) → Unbroken (a ++ (10 ∷ b)) → ⊥
unbroken_mid [] b h = h.0 refl
unbroken_mid (x ∷ xs) b h = unbroken_mid xs b h.1

unbroken_decimal : (n : ℕ) → n < 65536 → Unbroken (decimal n)
unbroken_decimal n small =
    let f : n < 2 ^ 64 = omega arith in
    unbroken_by (decimal n) (λ k h e.
    let d = digit_at (decimal n) k (decimal_is_IsNumeral n f).0.1 h in
    omega (arith, d.0))

unbroken_spaced : (ns : List ℕ) → Small ns → Unbroken (spaced ns)
unbroken_spaced [] sm = tt
unbroken_spaced (n ∷ ns) sm = (λ e. omega arith, unbroken_append (decimal n) (spaced ns) (unbroken_decimal n sm.0) (unbroken_spaced ns sm.1))

unbroken_line : (o : Order) → Small (numbers_of o) → Unbroken (line_of o)
unbroken_line o sm = (λ e. omega (arith, (known o).1), unbroken_spaced (numbers_of o) sm)

-- a list is cut at its first 10 in one way
pub same_front : (a r b t : List ℕ) → Unbroken a → Unbroken b → a ++ (10 ∷ r) ≡ b ++ (10 ∷ t) → a ≡ b
same_front [] r [] t p q e = refl
same_front [] r (y ∷ ys) t p q e = let z : y ≡ 10 = cc in absurd (q.0 z)
same_front (x ∷ xs) r [] t p q e = let z : x ≡ 10 = cc in absurd (p.0 z)
same_front (x ∷ xs) r (y ∷ ys) t p q e =
    let h : x ≡ y = cc in
    let w : xs ++ (10 ∷ r) ≡ ys ++ (10 ∷ t) = cc in
    let u = same_front xs r ys t p.1 q.1 w in
    cc

pub same_back : (a r b t : List ℕ) → Unbroken a → Unbroken b → a ++ (10 ∷ r) ≡ b ++ (10 ∷ t) → r ≡ t
same_back [] r [] t p q e = cc
same_back [] r (y ∷ ys) t p q e = let z : y ≡ 10 = cc in absurd (q.0 z)
same_back (x ∷ xs) r [] t p q e = let z : x ≡ 10 = cc in absurd (p.0 z)
same_back (x ∷ xs) r (y ∷ ys) t p q e =
    let w : xs ++ (10 ∷ r) ≡ ys ++ (10 ∷ t) = cc in
    same_back xs r ys t p.1 q.1 w

pub none_begins : (s a rest : List ℕ) → Ended s a rest → Says a None → NoneBegins s
none_begins s a rest e h o t b =
    h o b.small (same_front a rest (line_of o) t (unbroken_by a e.plain) (unbroken_line o b.small) (sym e.whole ∙ b.whole))

pub none_ends : (s : List ℕ) → Lacks 10 s → NoneBegins s
none_ends s h o t b = unbroken_mid (line_of o) t (subst Unbroken b.whole (unbroken_by s h))

-- a text begins with one order
pub same_first : (s : List ℕ) (o p : Order) (r t : List ℕ) → Begins s o r → Begins s p t → o ≡ p
same_first s o p r t a b =
    same_order o p a.small b.small
    (same_front (line_of o) r (line_of p) t (unbroken_line o a.small) (unbroken_line p b.small) (sym a.whole ∙ b.whole))

pub same_rest : (s : List ℕ) (o p : Order) (r t : List ℕ) → Begins s o r → Begins s p t → r ≡ t
same_rest s o p r t a b = same_back (line_of o) r (line_of p) t (unbroken_line o a.small) (unbroken_line p b.small) (sym a.whole ∙ b.whole)
