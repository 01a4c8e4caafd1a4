-- A row that shares fewer than three vertices with another meets none of its triangles.
use Rattle.std.proofs.Common.{◌≡◌, ℕ, ◌+◌, ◌<◌, ◌≤◌, Bool, true, false, cond, List, [], ◌∷◌, length, get_or, Some, None, Option, sym, refl, ap, ◌∙◌, ⊎_elim, arith}
use Rattle.std.specs.List.{count_by}
use Rattle.std.proofs.lemmas.Bool.{cases_eq, cases_Bool, cond-true, cond-false}
use Rattle.rules.specs.Tests.{on, SameOn}
use Rattle.rules.proofs.Corners.{on_other, test_at, in_to}
use Rattle.ground.specs.Searches.{same_face, picked, picked_all, met_with}
use Rattle.ground.proofs.Faces.{face_to}

-- a list of four, written out
pub four_of : {A : Type 0} → (xs : List A) (d : A) → length xs ≡ 4 → get_or xs 0 d ∷ get_or xs 1 d ∷ get_or xs 2 d ∷ get_or xs 3 d ∷ [] ≡ xs
four_of [] d e = absurd (omega arith)
four_of (a ∷ []) d e = absurd (omega arith)
four_of (a ∷ b ∷ []) d e = absurd (omega arith)
four_of (a ∷ b ∷ c ∷ []) d e = absurd (omega arith)
four_of (a ∷ b ∷ c ∷ g ∷ []) d e = refl
four_of (a ∷ b ∷ c ∷ g ∷ h ∷ xs) d e = absurd (omega arith)

-- how many of four pass
abbrev bit : Bool → ℕ
bit b = cond b 1 0

count_four : (f : ℕ → Bool) (x : List ℕ) → length x ≡ 4 → count_by f x ≡ bit (f (get_or x 0 0)) + (bit (f (get_or x 1 0)) + (bit (f (get_or x 2 0)) + bit (f (get_or x 3 0))))
count_four f x e = ap (count_by f) (sym (four_of x 0 e)) ∙ omega arith

-- a corner k of x, other than i, is a vertex of y
shares_one : (x y : List ℕ) (i j k : ℕ) → SameOn x i y j → k < 4 → (i ≡ k → ⊥) → bit (on y 4 (get_or x k 0)) ≡ 1
shares_one x y i j k s l n =
    let a = test_at y j (get_or x k 0) (sym (s (get_or x k 0)) ∙ on_other x i k l n) in
    ap bit (in_to y (get_or x k 0) (a.0, a.1, a.3))

shares : (x y : List ℕ) (i j : ℕ) → length x ≡ 4 → SameOn x i y j → 3 ≤ count_by (on y 4) x
shares x y i j e s =
    let all = count_four (on y 4) x e in
    let at : (k : ℕ) → k < 4 → (i ≡ k → ⊥) → bit (on y 4 (get_or x k 0)) ≡ 1 = λ k. shares_one x y i j k s in
    ⊎_elim (λ e. omega (arith, all, at 1 (omega arith) (λ q. omega arith), at 2 (omega arith) (λ q. omega arith), at 3 (omega arith) (λ q. omega arith))) (λ n0.
    ⊎_elim (λ e. omega (arith, all, at 0 (omega arith) n0, at 2 (omega arith) (λ q. omega arith), at 3 (omega arith) (λ q. omega arith))) (λ n1.
    ⊎_elim (λ e. omega (arith, all, at 0 (omega arith) n0, at 1 (omega arith) n1, at 3 (omega arith) (λ q. omega arith))) (λ n2.
    omega (arith, all, at 0 (omega arith) n0, at 1 (omega arith) n1, at 2 (omega arith) n2))
    (cases_eq i 2)) (cases_eq i 1)) (cases_eq i 0)

apart : (x y : List ℕ) → length x ≡ 4 → count_by (on y 4) x < 3 → (i j : ℕ) → same_face x i y j ≡ false
apart x y e l i j = ⊎_elim (λ p. absurd (omega (arith, shares x y i j e (face_to x i y j p)))) (λ p. p) (cases_Bool (same_face x i y j))

apart_whole : (x y : List ℕ) → length x ≡ 4 → count_by (on y 4) x < 3 → same_face y 4 x 4 ≡ false
apart_whole x y e l = ⊎_elim (λ p. absurd (omega (arith, shares x y 4 4 e (λ v. sym (face_to y 4 x 4 p v))))) (λ p. p) (cases_Bool (same_face y 4 x 4))

-- so the row adds nothing to what was found
pub unmet : (os : List (Option ℕ)) (x y : List ℕ) (h : ℕ) → length os ≡ 4 → length x ≡ 4 → count_by (on y 4) x < 3 → Some os ≡ met_with os x y h
unmet os x y h e x4 l =
    let still : (o : Option ℕ) (i : ℕ) → o ≡ picked o x i y h = λ o i.
    sym (cond-false _ _ _ (apart x y x4 l i 0) ∙ cond-false _ _ _ (apart x y x4 l i 1) ∙ cond-false _ _ _ (apart x y x4 l i 2) ∙ cond-false _ _ _ (apart x y x4 l i 3)) in
    let a = still (get_or os 0 None) 0 in
    let b = still (get_or os 1 None) 1 in
    let d = still (get_or os 2 None) 2 in
    let f = still (get_or os 3 None) 3 in
    let all : os ≡ picked_all os x y h = sym (four_of os None e) ∙ cc in
    ap Some all ∙ sym (cond-false (same_face y 4 x 4) None (Some (picked_all os x y h)) (apart_whole x y x4 l))

-- what the answer of one turn says
pub met_none : (os : List (Option ℕ)) (x y : List ℕ) (h : ℕ) → None ≡ met_with os x y h → same_face y 4 x 4 ≡ true
met_none os x y h p =
    ⊎_elim (λ q. q)
    (λ q. let r = cond-false (same_face y 4 x 4) None (Some (picked_all os x y h)) q in let z : ◌≡◌ {A = ℕ} 0 1 = cc in absurd (omega arith))
    (cases_Bool (same_face y 4 x 4))

pub met_some : (os next : List (Option ℕ)) (x y : List ℕ) (h : ℕ) → Some next ≡ met_with os x y h → (same_face y 4 x 4 ≡ false) × (next ≡ picked_all os x y h)
met_some os next x y h p =
    ⊎_elim
    (λ q. let r = cond-true (same_face y 4 x 4) None (Some (picked_all os x y h)) q in let z : ◌≡◌ {A = ℕ} 0 1 = cc in absurd (omega arith))
    (λ q. let r = cond-false (same_face y 4 x 4) None (Some (picked_all os x y h)) q in (q, cc))
    (cases_Bool (same_face y 4 x 4))
