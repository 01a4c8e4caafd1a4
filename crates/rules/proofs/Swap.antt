-- Two half-faces exchange their triangles, and what is joined to one is joined to the other after: the joins stay exact.
use Rattle.std.proofs.Common.{◌≡◌, ℕ, ◌<◌, Bool, false, cond, eqb, ◌⊎◌, Some, Option, sym, refl, ap, ◌∙◌, subst, inl, inr, ⊎_elim}
use Rattle.std.proofs.lemmas.Bool.{eq-eqb, ne_eqb, cases_eq, cond-true, cond-false, cases_Bool, both_ways}
use Rattle.rules.specs.Tests.{names}
use Rattle.rules.proofs.Exact.{Exact, named, names_some, back, renumber}
use Rattle.rules.proofs.Options.{some_eq}

pub cases_names : (o : Option ℕ) (h : ℕ) → (o ≡ Some h) ⊎ (names o h ≡ false)
cases_names o h = ⊎_elim (λ p. inl (named o h p)) (λ p. inr p) (cases_Bool (names o h))

pub unnamed : (o : Option ℕ) (h : ℕ) → (o ≡ Some h → ⊥) → names o h ≡ false
unnamed o h ne = ⊎_elim (λ p. absurd (ne (named o h p))) (λ p. p) (cases_Bool (names o h))

abbrev pub swapped : ℕ → ℕ → ℕ → ℕ
swapped a b h = cond (eqb h a) b (cond (eqb h b) a h)

pub swapped_first : (a b h : ℕ) → h ≡ a → swapped a b h ≡ b
swapped_first a b h p = cond-true (eqb h a) b (cond (eqb h b) a h) (eq-eqb h a p)

pub swapped_second : (a b h : ℕ) → (a ≡ b → ⊥) → h ≡ b → swapped a b h ≡ a
swapped_second a b h ne p = cond-false (eqb h a) b (cond (eqb h b) a h) (ne_eqb h a (λ q. ne (sym q ∙ p))) ∙ cond-true (eqb h b) a h (eq-eqb h b p)

pub swapped_else : (a b h : ℕ) → (h ≡ a → ⊥) → (h ≡ b → ⊥) → swapped a b h ≡ h
swapped_else a b h na nb = cond-false (eqb h a) b (cond (eqb h b) a h) (ne_eqb h a na) ∙ cond-false (eqb h b) a h (ne_eqb h b nb)

pub three : (a b h : ℕ) (P : Type 0) → (h ≡ a → P) → (h ≡ b → P) → ((h ≡ a → ⊥) → (h ≡ b → ⊥) → P) → P
three a b h P x y z = ⊎_elim x (λ na. ⊎_elim y (λ nb. z na nb) (cases_eq h b)) (cases_eq h a)

module _ (F F' : ℕ → ℕ → Bool) (m : ℕ) (J J' K : ℕ → Option ℕ) (a b : ℕ)
    (la : a < m) (lb : b < m) (ab : a ≡ b → ⊥)
    (fab : ((v : ℕ) → F a v ≡ F b v) → ⊥)
    (fa : (v : ℕ) → F' a v ≡ F b v) (fb : (v : ℕ) → F' b v ≡ F a v)
    (fo : (h v : ℕ) → h < m → (h ≡ a → ⊥) → (h ≡ b → ⊥) → F' h v ≡ F h v)
    (ka : K a ≡ J b) (kb : K b ≡ J a) (ko : (h : ℕ) → (h ≡ a → ⊥) → (h ≡ b → ⊥) → K h ≡ J h)
    (j : (h : ℕ) → J' h ≡ cond (names (J b) h) (Some a) (cond (names (J a) h) (Some b) (K h)))
    (e : Exact F m J) where
  not_ba : J b ≡ Some a → ⊥
  not_ba p = fab (λ v. sym (e.same b a lb p v))

  not_ab : J a ≡ Some b → ⊥
  not_ab p = fab (λ v. e.same a b la p v)

  not_aa : J a ≡ Some a → ⊥
  not_aa p = e.other a a la p refl

  not_bb : J b ≡ Some b → ⊥
  not_bb p = e.other b b lb p refl

  J'-b : (h : ℕ) → J b ≡ Some h → J' h ≡ Some a
  J'-b h p = j h ∙ cond-true (names (J b) h) (Some a) (cond (names (J a) h) (Some b) (K h)) (names_some (J b) h p)

  J'-a : (h : ℕ) → (J b ≡ Some h → ⊥) → J a ≡ Some h → J' h ≡ Some b
  J'-a h n p = j h ∙ cond-false (names (J b) h) (Some a) (cond (names (J a) h) (Some b) (K h)) (unnamed (J b) h n)
      ∙ cond-true (names (J a) h) (Some b) (K h) (names_some (J a) h p)

  J'-k : (h : ℕ) → (J b ≡ Some h → ⊥) → (J a ≡ Some h → ⊥) → J' h ≡ K h
  J'-k h n k = j h ∙ cond-false (names (J b) h) (Some a) (cond (names (J a) h) (Some b) (K h)) (unnamed (J b) h n)
      ∙ cond-false (names (J a) h) (Some b) (K h) (unnamed (J a) h k)

  at_a : J' a ≡ J b
  at_a = J'-k a not_ba not_aa ∙ ka

  at_b : J' b ≡ J a
  at_b = J'-k b not_bb not_ab ∙ kb

  σ_in : (h : ℕ) → h < m → swapped a b h < m
  σ_in h l = three a b h (swapped a b h < m)
      (λ p. subst (λ (x : ℕ). x < m) (sym (swapped_first a b h p)) lb)
      (λ p. subst (λ (x : ℕ). x < m) (sym (swapped_second a b h ab p)) la)
      (λ na nb. subst (λ (x : ℕ). x < m) (sym (swapped_else a b h na nb)) l)

  σ_twice : (h : ℕ) → swapped a b (swapped a b h) ≡ h
  σ_twice h = three a b h (swapped a b (swapped a b h) ≡ h)
      (λ p. swapped_second a b (swapped a b h) ab (swapped_first a b h p) ∙ sym p)
      (λ p. swapped_first a b (swapped a b h) (swapped_second a b h ab p) ∙ sym p)
      (λ na nb. ap (swapped a b) (swapped_else a b h na nb) ∙ swapped_else a b h na nb)

  σ_inj : (h g : ℕ) → h < m → g < m → swapped a b g ≡ swapped a b h → g ≡ h
  σ_inj h g l k p = sym (σ_twice g) ∙ ap (swapped a b) p ∙ σ_twice h

  faces : (h v : ℕ) → h < m → F' h v ≡ F (swapped a b h) v
  faces h v l = three a b h (F' h v ≡ F (swapped a b h) v)
      (λ p. ap (λ (x : ℕ). F' x v) p ∙ fa v ∙ ap (λ (x : ℕ). F x v) (sym (swapped_first a b h p)))
      (λ p. ap (λ (x : ℕ). F' x v) p ∙ fb v ∙ ap (λ (x : ℕ). F x v) (sym (swapped_second a b h ab p)))
      (λ na nb. fo h v l na nb ∙ ap (λ (x : ℕ). F x v) (sym (swapped_else a b h na nb)))

  -- g is neither a nor b
  stays : (h g : ℕ) → J (swapped a b h) ≡ Some g → (g ≡ a → ⊥) → (g ≡ b → ⊥) → J (swapped a b h) ≡ Some (swapped a b g)
  stays h g p na nb = p ∙ ap Some (sym (swapped_else a b g na nb))

  to_a : (h g : ℕ) → h ≡ a → J' h ≡ Some g → (g < m) × (J (swapped a b h) ≡ Some (swapped a b g))
  to_a h g q p =
      let r : J b ≡ Some g = sym at_a ∙ ap J' (sym q) ∙ p in
      let s : J (swapped a b h) ≡ Some g = ap J (swapped_first a b h q) ∙ r in
      (e.near b g lb r, stays h g s (λ z. not_ba (r ∙ ap Some z)) (λ z. not_bb (r ∙ ap Some z)))

  to_b : (h g : ℕ) → h ≡ b → J' h ≡ Some g → (g < m) × (J (swapped a b h) ≡ Some (swapped a b g))
  to_b h g q p =
      let r : J a ≡ Some g = sym at_b ∙ ap J' (sym q) ∙ p in
      let s : J (swapped a b h) ≡ Some g = ap J (swapped_second a b h ab q) ∙ r in
      (e.near a g la r, stays h g s (λ z. not_aa (r ∙ ap Some z)) (λ z. not_ab (r ∙ ap Some z)))

  to_else : (h g : ℕ) → h < m → (h ≡ a → ⊥) → (h ≡ b → ⊥) → J' h ≡ Some g → (g < m) × (J (swapped a b h) ≡ Some (swapped a b g))
  to_else h g l na nb p =
      let o : J (swapped a b h) ≡ J h = ap J (swapped_else a b h na nb) in
      ⊎_elim
      (λ q. let z : g ≡ a = some_eq g a (sym p ∙ J'-b h q) in (
        subst (λ (x : ℕ). x < m) (sym z) la,
        o ∙ back F m J e b h lb q ∙ ap Some (sym (swapped_first a b g z)),
      ))
      (λ nq. ⊎_elim
      (λ q. let z : g ≡ b = some_eq g b (sym p ∙ J'-a h (λ y. both_ways (names (J b) h) nq (names_some (J b) h y)) q) in (
        subst (λ (x : ℕ). x < m) (sym z) lb,
        o ∙ back F m J e a h la q ∙ ap Some (sym (swapped_second a b g ab z)),
      ))
      (λ nr. let r : J h ≡ Some g = sym (ko h na nb) ∙ sym (J'-k h (λ y. both_ways (names (J b) h) nq (names_some (J b) h y)) (λ y. both_ways (names (J a) h) nr (names_some (J a) h y))) ∙ p in (
        e.near h g l r,
        stays h g (o ∙ r)
            (λ z. both_ways (names (J a) h) nr (names_some (J a) h (back F m J e h a l (r ∙ ap Some z))))
            (λ z. both_ways (names (J b) h) nq (names_some (J b) h (back F m J e h b l (r ∙ ap Some z)))),
      ))
      (cases_names (J a) h))
      (cases_names (J b) h)

  to : (h g : ℕ) → h < m → J' h ≡ Some g → (g < m) × (J (swapped a b h) ≡ Some (swapped a b g))
  to h g l p = three a b h ((g < m) × (J (swapped a b h) ≡ Some (swapped a b g))) (λ q. to_a h g q p) (λ q. to_b h g q p) (λ na nb. to_else h g l na nb p)

  -- a half-face that is joined to a or b, seen from there
  from_a : (h g : ℕ) → h ≡ a → J (swapped a b h) ≡ Some (swapped a b g) → J' h ≡ Some g
  from_a h g q p =
      let r : J b ≡ Some (swapped a b g) = ap J (sym (swapped_first a b h q)) ∙ p in
      three a b g (J' h ≡ Some g)
      (λ z. absurd (not_bb (r ∙ ap Some (swapped_first a b g z))))
      (λ z. absurd (not_ba (r ∙ ap Some (swapped_second a b g ab z))))
      (λ na nb. ap J' q ∙ at_a ∙ r ∙ ap Some (swapped_else a b g na nb))

  from_b : (h g : ℕ) → h ≡ b → J (swapped a b h) ≡ Some (swapped a b g) → J' h ≡ Some g
  from_b h g q p =
      let r : J a ≡ Some (swapped a b g) = ap J (sym (swapped_second a b h ab q)) ∙ p in
      three a b g (J' h ≡ Some g)
      (λ z. absurd (not_ab (r ∙ ap Some (swapped_first a b g z))))
      (λ z. absurd (not_aa (r ∙ ap Some (swapped_second a b g ab z))))
      (λ na nb. ap J' q ∙ at_b ∙ r ∙ ap Some (swapped_else a b g na nb))

  from_else : (h g : ℕ) → h < m → (h ≡ a → ⊥) → (h ≡ b → ⊥) → J (swapped a b h) ≡ Some (swapped a b g) → J' h ≡ Some g
  from_else h g l na nb p =
      let r : J h ≡ Some (swapped a b g) = ap J (sym (swapped_else a b h na nb)) ∙ p in
      three a b g (J' h ≡ Some g)
      (λ z. J'-b h (back F m J e h b l (r ∙ ap Some (swapped_first a b g z))) ∙ ap Some (sym z))
      (λ z. let s : J h ≡ Some a = r ∙ ap Some (swapped_second a b g ab z) in
      J'-a h (λ y. ab (some_eq a b (sym s ∙ back F m J e b h lb y))) (back F m J e h a l s) ∙ ap Some (sym z))
      (λ ga gb. let s : J h ≡ Some g = r ∙ ap Some (swapped_else a b g ga gb) in
      J'-k h (λ y. gb (some_eq g b (sym s ∙ back F m J e b h lb y))) (λ y. ga (some_eq g a (sym s ∙ back F m J e a h la y)))
      ∙ ko h na nb ∙ s)

  from : (h g : ℕ) → h < m → g < m → J (swapped a b h) ≡ Some (swapped a b g) → J' h ≡ Some g
  from h g l k p = three a b h (J' h ≡ Some g) (λ q. from_a h g q p) (λ q. from_b h g q p) (λ na nb. from_else h g l na nb p)

  pub swap_exact : Exact F' m J'
  swap_exact = renumber F F' m m J J' (swapped a b) σ_inj σ_in faces to from e
