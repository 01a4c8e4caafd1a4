-- Cell t goes, and the last cell p takes its number: the joins stay exact.
use Rattle.std.proofs.Common.{◌≡◌, ℕ, ◌+◌, ◌*◌, ◌/◌, ◌%◌, ◌<◌, Bool, cond, eqb, Some, Option, sym, ap, ◌∙◌, subst, ⊎_elim, arith}
use Rattle.std.proofs.lemmas.Bool.{eq-eqb, ne_eqb, cases_eq, cases_lt, cond-true, cond-false}
use Rattle.rules.proofs.Append.{which}
use Rattle.rules.proofs.Exact.{Exact, back, renumber}
use Rattle.rules.proofs.Options.{some_eq}

-- the old number of the half-face h
abbrev pub source : ℕ → ℕ → ℕ → ℕ
source t p h = cond (eqb (h / 4) t) (4 * p + h % 4) h

pub source_here : (t p h : ℕ) → h / 4 ≡ t → source t p h ≡ 4 * p + h % 4
source_here t p h e = cond-true (eqb (h / 4) t) (4 * p + h % 4) h (eq-eqb (h / 4) t e)

pub source_there : (t p h : ℕ) → (h / 4 ≡ t → ⊥) → source t p h ≡ h
source_there t p h e = cond-false (eqb (h / 4) t) (4 * p + h % 4) h (ne_eqb (h / 4) t e)

module _ (F F' : ℕ → ℕ → Bool) (t p : ℕ) (lt : t < p) (J U J' K : ℕ → Option ℕ)
    (apart : (i k : ℕ) → i < 4 → k < 4 → J (4 * p + i) ≡ Some (4 * p + k) → ⊥)
    (us : (h g : ℕ) → h < 4 * p + 4 → (h / 4 ≡ t → ⊥) → U h ≡ Some g → (J h ≡ Some g) × (g / 4 ≡ t → ⊥))
    (uw : (h g : ℕ) → h < 4 * p + 4 → (h / 4 ≡ t → ⊥) → (g / 4 ≡ t → ⊥) → J h ≡ Some g → U h ≡ Some g)
    (kh : (h : ℕ) → h / 4 ≡ t → K h ≡ U (4 * p + h % 4))
    (kt : (h : ℕ) → (h / 4 ≡ t → ⊥) → K h ≡ U h)
    (jw : (i h : ℕ) → i < 4 → U (4 * p + i) ≡ Some h → J' h ≡ Some (4 * t + i))
    (jo : (h : ℕ) → ((i : ℕ) → i < 4 → U (4 * p + i) ≡ Some h → ⊥) → J' h ≡ K h)
    (ff : (h v : ℕ) → h < 4 * p → F' h v ≡ F (source t p h) v)
    (e : Exact F (4 * p + 4) J) where
  inside : (h : ℕ) → h < 4 * p → source t p h < 4 * p + 4
  inside h l =
      ⊎_elim (λ q. subst (λ (k : ℕ). k < 4 * p + 4) (sym (source_here t p h q)) (omega arith))
      (λ q. subst (λ (k : ℕ). k < 4 * p + 4) (sym (source_there t p h q)) (omega arith)) (cases_eq (h / 4) t)

  -- the old number is not of cell t
  off : (h : ℕ) → h < 4 * p → source t p h / 4 ≡ t → ⊥
  off h l =
      ⊎_elim (λ q. subst (λ (k : ℕ). k / 4 ≡ t → ⊥) (sym (source_here t p h q)) (λ z. omega arith))
      (λ q. subst (λ (k : ℕ). k / 4 ≡ t → ⊥) (sym (source_there t p h q)) q) (cases_eq (h / 4) t)

  inj : (h g : ℕ) → h < 4 * p → g < 4 * p → source t p g ≡ source t p h → g ≡ h
  inj h g l k z =
      ⊎_elim
      (λ a. ⊎_elim
      (λ b. let y : 4 * p + g % 4 ≡ 4 * p + h % 4 = sym (source_here t p g b) ∙ z ∙ source_here t p h a in omega arith)
      (λ b. let y : g ≡ 4 * p + h % 4 = sym (source_there t p g b) ∙ z ∙ source_here t p h a in absurd (omega arith))
      (cases_eq (g / 4) t))
      (λ a. ⊎_elim
      (λ b. let y : 4 * p + g % 4 ≡ h = sym (source_here t p g b) ∙ z ∙ source_there t p h a in absurd (omega arith))
      (λ b. sym (source_there t p g b) ∙ z ∙ source_there t p h a)
      (cases_eq (g / 4) t))
      (cases_eq (h / 4) t)

  keeps : (h : ℕ) → K h ≡ U (source t p h)
  keeps h = ⊎_elim (λ q. kh h q ∙ ap U (sym (source_here t p h q))) (λ q. kt h q ∙ ap U (sym (source_there t p h q))) (cases_eq (h / 4) t)

  -- what the last cell is joined to, from there
  met : (i h : ℕ) → i < 4 → U (4 * p + i) ≡ Some h → (J h ≡ Some (4 * p + i)) × (h / 4 ≡ t → ⊥)
  met i h a q =
      let r = us (4 * p + i) h (omega arith) (λ z. omega arith) q in
      (back F (4 * p + 4) J e (4 * p + i) h (omega arith) r.0, r.1)

  to : (h g : ℕ) → h < 4 * p → J' h ≡ Some g → (g < 4 * p) × (J (source t p h) ≡ Some (source t p g))
  to h g l q =
      ⊎_elim
      (λ x. let i4 : x.0 < 4 = x.1 in
      let z : g ≡ 4 * t + x.0 = some_eq g (4 * t + x.0) (sym q ∙ jw x.0 h x.1 x.2) in
      let r = met x.0 h x.1 x.2 in
      let g4 : g / 4 ≡ t = omega arith in
      let y : 4 * p + g % 4 ≡ 4 * p + x.0 = omega arith in
      (omega arith, ap J (source_there t p h r.1) ∙ r.0 ∙ ap Some (sym y ∙ sym (source_here t p g g4))))
      (λ none.
      let s = us (source t p h) g (inside h l) (off h l) (sym (keeps h) ∙ sym (jo h none) ∙ q) in
      let b : g < 4 * p + 4 = e.near (source t p h) g (inside h l) s.0 in
      let r : g < 4 * p = ⊎_elim (λ c. c) (λ c. absurd (
      let y : g ≡ 4 * p + g % 4 = omega arith in
      let m4 : g % 4 < 4 = omega arith in
      ⊎_elim
      (λ a. apart (h % 4) (g % 4) (omega arith) m4 (ap J (sym (source_here t p h a)) ∙ s.0 ∙ ap Some y))
      (λ a. none (g % 4) m4 (uw (4 * p + g % 4) h (omega arith) (λ w. omega arith) a
      (ap J (sym y) ∙ back F (4 * p + 4) J e h g (omega arith) (ap J (sym (source_there t p h a)) ∙ s.0))))
      (cases_eq (h / 4) t))) (cases_lt g (4 * p)) in
      (r, s.0 ∙ ap Some (sym (source_there t p g s.1))))
      (which (λ i. U (4 * p + i)) h)

  from : (h g : ℕ) → h < 4 * p → g < 4 * p → J (source t p h) ≡ Some (source t p g) → J' h ≡ Some g
  from h g l k q =
      ⊎_elim
      (λ b. let m4 : g % 4 < 4 = omega arith in
      let r : J (source t p h) ≡ Some (4 * p + g % 4) = q ∙ ap Some (source_here t p g b) in
      let y : 4 * t + g % 4 ≡ g = omega arith in
      ⊎_elim
      (λ a. absurd (apart (h % 4) (g % 4) (omega arith) m4 (ap J (sym (source_here t p h a)) ∙ r)))
      (λ a. jw (g % 4) h m4 (uw (4 * p + g % 4) h (omega arith) (λ w. omega arith) a
      (back F (4 * p + 4) J e h (4 * p + g % 4) (omega arith) (ap J (sym (source_there t p h a)) ∙ r))) ∙ ap Some y)
      (cases_eq (h / 4) t))
      (λ b. let r : J (source t p h) ≡ Some g = q ∙ ap Some (source_there t p g b) in
      jo h (λ i i4 w. let s = met i h i4 w in
      let z : g ≡ 4 * p + i = some_eq g (4 * p + i) (sym r ∙ ap J (source_there t p h s.1) ∙ s.0) in omega arith)
      ∙ keeps h ∙ uw (source t p h) g (inside h l) (off h l) b r)
      (cases_eq (g / 4) t)

  pub lift_exact : Exact F' (4 * p) J'
  lift_exact = renumber F F' (4 * p + 4) (4 * p) J J' (source t p) inj inside ff to from e
