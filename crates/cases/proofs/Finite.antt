-- Tests of all numbers below a bound, of optional numbers and of lists.
use Rattle.std.proofs.Common.{◌≡◌, ℕ, zero, suc, ◌<◌, Bool, true, false, not, ◌&&◌, ◌||◌, eqb, List, [], ◌∷◌, Some, None, Option, sym, refl, ap, ◌∙◌, ⊎_elim, arith}
use Rattle.std.proofs.lemmas.Bool.{and_parts, and_from, or_cases, or_left, or_right, both_ways, cases_eq, eqb-true, not-true, false≢true}

-- every number below n passes
unfoldable pub every : ℕ → (ℕ → Bool) → Bool
every zero P = true
every (suc n) P = every n P && P n

pub every_at : (n : ℕ) (P : ℕ → Bool) → every n P ≡ true → (i : ℕ) → i < n → P i ≡ true
unfolding every
every_at zero P e i l = absurd (omega arith)
every_at (suc n) P e i l =
    let a = and_parts (every n P) (P n) e in
    ⊎_elim (λ q. ap P q ∙ a.1) (λ q. every_at n P a.0 i (omega arith)) (cases_eq i n)

pub every_from : (n : ℕ) (P : ℕ → Bool) → ((i : ℕ) → i < n → P i ≡ true) → every n P ≡ true
unfolding every
every_from zero P f = refl
every_from (suc n) P f = and_from _ _ (every_from n P (λ i l. f i (omega arith))) (f n (omega arith))

-- some number below n passes
unfoldable pub some : ℕ → (ℕ → Bool) → Bool
some zero P = false
some (suc n) P = some n P || P n

pub some_at : (n : ℕ) (P : ℕ → Bool) → some n P ≡ true → (i : ℕ) × (i < n) × (P i ≡ true)
unfolding some
some_at zero P e = absurd (false≢true e)
some_at (suc n) P e =
    ⊎_elim (λ q. let a = some_at n P q in let l = a.1 in (a.0, omega arith, a.2)) (λ q. (n, omega arith, q)) (or_cases (some n P) (P n) e)

pub some_from : (n : ℕ) (P : ℕ → Bool) (i : ℕ) → i < n → P i ≡ true → some n P ≡ true
unfolding some
some_from zero P i l t = absurd (omega arith)
some_from (suc n) P i l t =
    ⊎_elim (λ q. or_right (some n P) (P n) (ap P (sym q) ∙ t)) (λ q. or_left (some n P) (P n) (some_from n P i (omega arith) t)) (cases_eq i n)

-- the first test implies the second
abbrev pub implies : Bool → Bool → Bool
implies a b = not a || b

pub implied : (a b : Bool) → implies a b ≡ true → a ≡ true → b ≡ true
implied a b e t = ⊎_elim (λ q. absurd (both_ways a (not-true a q) t)) (λ q. q) (or_cases (not a) b e)

-- o has a number, and it passes
abbrev pub has : Option ℕ → (ℕ → Bool) → Bool
has None P = false
has (Some g) P = P g

pub has_at : (o : Option ℕ) (P : ℕ → Bool) → has o P ≡ true → (g : ℕ) × (o ≡ Some g) × (P g ≡ true)
has_at None P e = absurd (false≢true e)
has_at (Some g) P e = (g, refl, e)

-- k is in the list
abbrev pub lists_number : List ℕ → ℕ → Bool
lists_number [] k = false
lists_number (x ∷ xs) k = eqb x k || lists_number xs k

-- two lists are the same
abbrev pub same_list : List ℕ → List ℕ → Bool
same_list [] [] = true
same_list [] (y ∷ ys) = false
same_list (x ∷ xs) [] = false
same_list (x ∷ xs) (y ∷ ys) = eqb x y && same_list xs ys

pub same_list_lem : (xs ys : List ℕ) → same_list xs ys ≡ true → xs ≡ ys
same_list_lem [] [] e = refl
same_list_lem [] (y ∷ ys) e = absurd (false≢true e)
same_list_lem (x ∷ xs) [] e = absurd (false≢true e)
same_list_lem (x ∷ xs) (y ∷ ys) e =
    let a = and_parts (eqb x y) (same_list xs ys) e in
    ap (λ (z : ℕ). z ∷ xs) (eqb-true x y a.0) ∙ ap (λ (zs : List ℕ). y ∷ zs) (same_list_lem xs ys a.1)
