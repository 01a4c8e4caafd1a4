-- Readings of one triangle: rotations, and what an exchange of two vertices does.
use Rattle.std.proofs.Common.{◌≡◌, ℕ, true, not, ◌&&◌, eqb, ◌≢◌, ◌⊎◌, List, [], ◌∷◌, get_or, sym, ap, ◌∙◌, subst, inl, inr, ⊎_elim}
use Rattle.std.proofs.lemmas.Bool.{eqb-true, eq-eqb, and_parts, and_from, or_cases, or_left, or_right, cases_Bool}
use Rattle.rules.specs.Readings.{Reading, listed, rotated, Alike}
use Rattle.rules.specs.NetTests.{rotation, among}
use Rattle.rules.proofs.Corners.{both}
use Rattle.rules.proofs.Webbed.{among_cases}

-- a b c are d e f, in that order
abbrev Same3 : ℕ → ℕ → ℕ → ℕ → ℕ → ℕ → Type 0
Same3 a b c d e f = (a ≡ d) × (b ≡ e) × (c ≡ f)

-- a b c is a rotation of d e f
abbrev Even3 : ℕ → ℕ → ℕ → ℕ → ℕ → ℕ → Type 0
Even3 a b c d e f = Same3 a b c d e f ⊎ (Same3 a b c e f d ⊎ Same3 a b c f d e)

even_to : (p q : List ℕ) → Even3 (get_or p 0 0) (get_or p 1 0) (get_or p 2 0) (get_or q 0 0) (get_or q 1 0) (get_or q 2 0) → rotation p q ≡ true
even_to p q s =
    ⊎_elim
    (λ x. or_left _ _ (and_from _ _ (eq-eqb _ _ x.0) (and_from _ _ (eq-eqb _ _ x.1) (eq-eqb _ _ x.2))))
    (λ r. or_right (eqb (get_or p 0 0) (get_or q 0 0) && (eqb (get_or p 1 0) (get_or q 1 0) && eqb (get_or p 2 0) (get_or q 2 0))) _
    (⊎_elim
    (λ x. or_left _ _ (and_from _ _ (eq-eqb _ _ x.0) (and_from _ _ (eq-eqb _ _ x.1) (eq-eqb _ _ x.2))))
    (λ x. or_right (eqb (get_or p 0 0) (get_or q 1 0) && (eqb (get_or p 1 0) (get_or q 2 0) && eqb (get_or p 2 0) (get_or q 0 0))) _
    (and_from _ _ (eq-eqb _ _ x.0) (and_from _ _ (eq-eqb _ _ x.1) (eq-eqb _ _ x.2))))
    r))
    s

three_eq : (a b c d e f : ℕ) → (eqb a d && (eqb b e && eqb c f)) ≡ true → Same3 a b c d e f
three_eq a b c d e f h = let x = and_parts (eqb a d) _ h in let y = and_parts (eqb b e) _ x.1 in (eqb-true a d x.0, eqb-true b e y.0, eqb-true c f y.1)

even_from : (p q : List ℕ) → rotation p q ≡ true → Even3 (get_or p 0 0) (get_or p 1 0) (get_or p 2 0) (get_or q 0 0) (get_or q 1 0) (get_or q 2 0)
even_from p q h =
    ⊎_elim (λ x. inl (three_eq _ _ _ _ _ _ x))
    (λ r. inr (⊎_elim (λ x. inl (three_eq _ _ _ _ _ _ x)) (λ x. inr (three_eq _ _ _ _ _ _ x)) (or_cases _ _ r)))
    (or_cases _ _ h)

turn_about : (a b c d e f : ℕ) → Even3 a b c d e f → Even3 d e f a b c
turn_about a b c d e f s =
    ⊎_elim (λ x. inl (sym x.0, sym x.1, sym x.2))
    (λ r. inr (⊎_elim (λ x. inr (sym x.2, sym x.0, sym x.1)) (λ x. inl (sym x.1, sym x.2, sym x.0)) r)) s

pub rotation_sym : (p q : List ℕ) → rotation p q ≡ rotation q p
rotation_sym p q = both (rotation p q) (rotation q p)
    (λ h. even_to q p (turn_about _ _ _ _ _ _ (even_from p q h)))
    (λ h. even_to p q (turn_about _ _ _ _ _ _ (even_from q p h)))

-- two of the three exchanged
abbrev pub Swapped : List ℕ → List ℕ → Type 0
Swapped p' p =
    (p' ≡ (get_or p 0 0 ∷ get_or p 2 0 ∷ get_or p 1 0 ∷ [])) ⊎
    ((p' ≡ (get_or p 2 0 ∷ get_or p 1 0 ∷ get_or p 0 0 ∷ [])) ⊎
    (p' ≡ (get_or p 1 0 ∷ get_or p 0 0 ∷ get_or p 2 0 ∷ [])))

abbrev pub Distinct : List ℕ → Type 0
Distinct p = (get_or p 0 0 ≢ get_or p 1 0) × (get_or p 0 0 ≢ get_or p 2 0) × (get_or p 1 0 ≢ get_or p 2 0)

-- the readings of a swapped triangle, as the odd ones of it
odd_from : (p' p q : List ℕ) → Swapped p' p → rotation p' q ≡ true → Even3 (get_or p 0 0) (get_or p 2 0) (get_or p 1 0) (get_or q 0 0) (get_or q 1 0) (get_or q 2 0)
odd_from p' p q s h =
    ⊎_elim
    (λ x. even_from (get_or p 0 0 ∷ get_or p 2 0 ∷ get_or p 1 0 ∷ []) q (subst (λ (z : List ℕ). rotation z q ≡ true) x h))
    (λ r. ⊎_elim
    (λ x. let k = even_from (get_or p 2 0 ∷ get_or p 1 0 ∷ get_or p 0 0 ∷ []) q (subst (λ (z : List ℕ). rotation z q ≡ true) x h) in
    ⊎_elim (λ y. inr (inr (y.2, y.0, y.1))) (λ t. ⊎_elim (λ y. inl (y.2, y.0, y.1)) (λ y. inr (inl (y.2, y.0, y.1))) t) k)
    (λ x. let k = even_from (get_or p 1 0 ∷ get_or p 0 0 ∷ get_or p 2 0 ∷ []) q (subst (λ (z : List ℕ). rotation z q ≡ true) x h) in
    ⊎_elim (λ y. inr (inl (y.1, y.2, y.0))) (λ t. ⊎_elim (λ y. inr (inr (y.1, y.2, y.0))) (λ y. inl (y.1, y.2, y.0)) t) k)
    r)
    s

odd_to : (p' p q : List ℕ) → Swapped p' p → Even3 (get_or p 0 0) (get_or p 2 0) (get_or p 1 0) (get_or q 0 0) (get_or q 1 0) (get_or q 2 0) → rotation p' q ≡ true
odd_to p' p q s k =
    ⊎_elim
    (λ x. subst (λ (z : List ℕ). rotation z q ≡ true) (sym x) (even_to (get_or p 0 0 ∷ get_or p 2 0 ∷ get_or p 1 0 ∷ []) q k))
    (λ r. ⊎_elim
    (λ x. subst (λ (z : List ℕ). rotation z q ≡ true) (sym x) (even_to (get_or p 2 0 ∷ get_or p 1 0 ∷ get_or p 0 0 ∷ []) q
    (⊎_elim (λ y. inr (inl (y.1, y.2, y.0))) (λ t. ⊎_elim (λ y. inr (inr (y.1, y.2, y.0))) (λ y. inl (y.1, y.2, y.0)) t) k)))
    (λ x. subst (λ (z : List ℕ). rotation z q ≡ true) (sym x) (even_to (get_or p 1 0 ∷ get_or p 0 0 ∷ get_or p 2 0 ∷ []) q
    (⊎_elim (λ y. inr (inr (y.2, y.0, y.1))) (λ t. ⊎_elim (λ y. inl (y.2, y.0, y.1)) (λ y. inr (inl (y.2, y.0, y.1))) t) k)))
    r)
    s

pick : {P : Type 0} (x d e f : ℕ) → (d ≡ x) ⊎ ((e ≡ x) ⊎ (f ≡ x)) → (d ≡ x → P) → (e ≡ x → P) → (f ≡ x → P) → P
pick x d e f s a b c = ⊎_elim a (λ r. ⊎_elim b c r) s

-- three different numbers that are among d e f
six : (a b c d e f : ℕ) → a ≢ b → a ≢ c → b ≢ c → (d ≡ a) ⊎ ((e ≡ a) ⊎ (f ≡ a)) → (d ≡ b) ⊎ ((e ≡ b) ⊎ (f ≡ b)) → (d ≡ c) ⊎ ((e ≡ c) ⊎ (f ≡ c)) → Even3 a b c d e f ⊎ Even3 a c b d e f
six a b c d e f ab ac bc sa sb sc =
    pick a d e f sa
    (λ x. pick b d e f sb
    (λ y. absurd (ab (sym x ∙ y)))
    (λ y. pick c d e f sc (λ z. absurd (ac (sym x ∙ z))) (λ z. absurd (bc (sym y ∙ z))) (λ z. inl (inl (sym x, sym y, sym z))))
    (λ y. pick c d e f sc (λ z. absurd (ac (sym x ∙ z))) (λ z. inr (inl (sym x, sym z, sym y))) (λ z. absurd (bc (sym y ∙ z)))))
    (λ x. pick b d e f sb
    (λ y. pick c d e f sc (λ z. absurd (bc (sym y ∙ z))) (λ z. absurd (ac (sym x ∙ z))) (λ z. inr (inr (inl (sym x, sym z, sym y)))))
    (λ y. absurd (ab (sym x ∙ y)))
    (λ y. pick c d e f sc (λ z. inl (inr (inl (sym x, sym y, sym z)))) (λ z. absurd (ac (sym x ∙ z))) (λ z. absurd (bc (sym y ∙ z)))))
    (λ x. pick b d e f sb
    (λ y. pick c d e f sc (λ z. absurd (bc (sym y ∙ z))) (λ z. inl (inr (inr (sym x, sym y, sym z)))) (λ z. absurd (ac (sym x ∙ z))))
    (λ y. pick c d e f sc (λ z. inr (inr (inr (sym x, sym z, sym y)))) (λ z. absurd (bc (sym y ∙ z))) (λ z. absurd (ac (sym x ∙ z))))
    (λ y. absurd (ab (sym x ∙ y))))

-- no reading is both
never_both : (a b c d e f : ℕ) → a ≢ b → a ≢ c → b ≢ c → Even3 a b c d e f → Even3 a c b d e f → ⊥
never_both a b c d e f ab ac bc s t =
    ⊎_elim
    (λ x. ⊎_elim (λ y. bc (x.1 ∙ sym y.1)) (λ r. ⊎_elim (λ y. ab (y.0 ∙ sym x.1)) (λ y. ac (y.0 ∙ sym x.2)) r) t)
    (λ u. ⊎_elim
    (λ x. ⊎_elim (λ y. ac (y.0 ∙ sym x.2)) (λ r. ⊎_elim (λ y. bc (x.1 ∙ sym y.1)) (λ y. ab (y.0 ∙ sym x.1)) r) t)
    (λ x. ⊎_elim (λ y. ab (y.0 ∙ sym x.1)) (λ r. ⊎_elim (λ y. ac (y.0 ∙ sym x.2)) (λ y. bc (x.1 ∙ sym y.1)) r) t)
    u)
    s

-- an exchange turns 'alike' round
pub flips : (p' p q : List ℕ) → Swapped p' p → Distinct p → ((v : ℕ) → among p v ≡ true → among q v ≡ true)
    → among p (get_or p 0 0) ≡ true → among p (get_or p 1 0) ≡ true → among p (get_or p 2 0) ≡ true → rotation p' q ≡ not (rotation p q)
flips p' p q s d w i j k =
    ⊎_elim
    (λ ev. ⊎_elim
    (λ t. absurd (never_both _ _ _ _ _ _ d.0 d.1 d.2 ev (odd_from p' p q s t)))
    (λ t. t ∙ ap not (sym (even_to p q ev)))
    (cases_Bool (rotation p' q)))
    (λ od. ⊎_elim
    (λ t. absurd (never_both _ _ _ _ _ _ d.0 d.1 d.2 (even_from p q t) od))
    (λ t. odd_to p' p q s od ∙ ap not (sym t))
    (cases_Bool (rotation p q)))
    (six _ _ _ _ _ _ d.0 d.1 d.2 (among_cases q _ (w _ i)) (among_cases q _ (w _ j)) (among_cases q _ (w _ k)))

-- the test of two readings
same_reading : (a b : Reading) → Same3 a.p a.q a.r b.p b.q b.r → a ≡ b
same_reading a b e = made a.p a.q a.r b.p b.q b.r e.0 e.1 e.2
  where
    made : (a b c d e f : ℕ) → a ≡ d → b ≡ e → c ≡ f → ◌≡◌ {A = Reading} (record { p = a; q = b; r = c }) (record { p = d; q = e; r = f })
    made a b c d e f x y z = cc

pub alike_so : (a b : Reading) → rotation (listed a) (listed b) ≡ true → Alike a b
alike_so a b h =
    ⊎_elim (λ x. inl (same_reading a b x)) (λ r. inr (⊎_elim (λ x. inl (same_reading a (rotated b) x)) (λ x. inr (same_reading a (rotated (rotated b)) x)) r))
    (even_from (listed a) (listed b) h)

pub alike_to : (a b : Reading) → Alike a b → rotation (listed a) (listed b) ≡ true
alike_to a b s =
    even_to (listed a) (listed b)
    (⊎_elim (λ x. inl (parts a b x)) (λ r. inr (⊎_elim (λ x. inl (parts a (rotated b) x)) (λ x. inr (parts a (rotated (rotated b)) x)) r)) s)
  where
    parts : (a b : Reading) → a ≡ b → Same3 a.p a.q a.r b.p b.q b.r
    parts a b e = (ap (λ (x : Reading). x.p) e, ap (λ (x : Reading). x.q) e, ap (λ (x : Reading). x.r) e)
