-- Four half-faces come after the m that there are; W has for each the one that it meets: the joins stay exact.
use Rattle.std.proofs.Common.{◌≡◌, ℕ, ◌+◌, ◌-◌, ◌<◌, Bool, false, ◌⊎◌, Some, Option, sym, ap, ◌∙◌, inl, inr, ⊎_elim, arith}
use Rattle.std.proofs.lemmas.Bool.{cases_eq, cases_lt, both_ways}
use Rattle.rules.specs.Tests.{names}
use Rattle.rules.proofs.Exact.{Exact, names_some}
use Rattle.rules.proofs.Swap.{cases_names}
use Rattle.rules.proofs.Options.{some_eq}

not_named : (o : Option ℕ) (h : ℕ) → names o h ≡ false → o ≡ Some h → ⊥
not_named o h n p = both_ways (names o h) n (names_some o h p)

-- which of four names h, or that none does
pub which : (W : ℕ → Option ℕ) (h : ℕ) → ((i : ℕ) × (i < 4) × (W i ≡ Some h)) ⊎ ((i : ℕ) → i < 4 → W i ≡ Some h → ⊥)
which W h =
    ⊎_elim (λ p. inl (0, omega arith, p)) (λ n0.
    ⊎_elim (λ p. inl (1, omega arith, p)) (λ n1.
    ⊎_elim (λ p. inl (2, omega arith, p)) (λ n2.
    ⊎_elim (λ p. inl (3, omega arith, p)) (λ n3.
    inr (λ i l p.
    ⊎_elim (λ z. not_named (W 0) h n0 (ap W (sym z) ∙ p)) (λ z0.
    ⊎_elim (λ z. not_named (W 1) h n1 (ap W (sym z) ∙ p)) (λ z1.
    ⊎_elim (λ z. not_named (W 2) h n2 (ap W (sym z) ∙ p)) (λ z2.
    let z : i ≡ 3 = omega arith in not_named (W 3) h n3 (ap W (sym z) ∙ p))
    (cases_eq i 2)) (cases_eq i 1)) (cases_eq i 0)))
    (cases_names (W 3) h)) (cases_names (W 2) h)) (cases_names (W 1) h)) (cases_names (W 0) h)

module _ (F F' : ℕ → ℕ → Bool) (m : ℕ) (J J' W : ℕ → Option ℕ)
    (old : (h v : ℕ) → h < m → F' h v ≡ F h v)
    (apart : (i k : ℕ) → i < 4 → k < 4 → ((v : ℕ) → F' (m + i) v ≡ F' (m + k) v) → i ≡ k)
    (ws : (i g : ℕ) → i < 4 → W i ≡ Some g → (g < m) × ((v : ℕ) → F' (m + i) v ≡ F g v))
    (ww : (i g : ℕ) → i < 4 → g < m → ((v : ℕ) → F' (m + i) v ≡ F g v) → W i ≡ Some g)
    (jw : (i h : ℕ) → i < 4 → W i ≡ Some h → J' h ≡ Some (m + i))
    (jo : (h : ℕ) → h < m → ((i : ℕ) → i < 4 → W i ≡ Some h → ⊥) → J' h ≡ J h)
    (jn : (i : ℕ) → i < 4 → J' (m + i) ≡ W i)
    (e : Exact F m J) where
  -- a half-face that a new one meets has no opposite yet
  free : (i g k : ℕ) → i < 4 → W i ≡ Some g → J g ≡ Some k → ⊥
  free i g k l p q =
      let s = ws i g l p in
      e.other g k s.0 q (some_eq k g (sym (ww i k l (e.near g k s.0 q) (λ v. s.1 v ∙ e.same g k s.0 q v)) ∙ p))

  sound : (h g : ℕ) → h < m + 4 → J' h ≡ Some g → (g < m + 4) × (g ≡ h → ⊥) × ((v : ℕ) → F' h v ≡ F' g v)
  sound h g l p =
      ⊎_elim
      (λ a. ⊎_elim
      (λ x. let z : g ≡ m + x.0 = some_eq g (m + x.0) (sym p ∙ jw x.0 h x.1 x.2) in
      let b : x.0 < 4 = x.1 in
      (omega arith, (λ y. omega arith), λ v. old h v a ∙ sym ((ws x.0 h x.1 x.2).1 v) ∙ ap (λ (k : ℕ). F' k v) (sym z)))
      (λ n. let r : J h ≡ Some g = sym (jo h a n) ∙ p in
      let b : g < m = e.near h g a r in
      (omega arith, e.other h g a r, λ v. old h v a ∙ e.same h g a r v ∙ sym (old g v b)))
      (which W h))
      (λ a. let q : h ≡ m + (h - m) = omega arith in
      let i4 : h - m < 4 = omega arith in
      let r : W (h - m) ≡ Some g = sym (jn (h - m) i4) ∙ ap J' (sym q) ∙ p in
      let s = ws (h - m) g i4 r in
      let b : g < m = s.0 in
      (omega arith, (λ y. omega arith), λ v. ap (λ (k : ℕ). F' k v) q ∙ s.1 v ∙ sym (old g v b)))
      (cases_lt h m)

  whole : (h g : ℕ) → h < m + 4 → g < m + 4 → (g ≡ h → ⊥) → ((v : ℕ) → F' h v ≡ F' g v) → J' h ≡ Some g
  whole h g l k ne s =
      ⊎_elim
      (λ a. ⊎_elim
      (λ b. let r : J h ≡ Some g = e.whole h g a b ne (λ v. sym (old h v a) ∙ s v ∙ old g v b) in
      ⊎_elim (λ x. absurd (free x.0 h g x.1 x.2 r)) (λ n. jo h a n ∙ r) (which W h))
      (λ b. let q : g ≡ m + (g - m) = omega arith in
      let i4 : g - m < 4 = omega arith in
      jw (g - m) h i4 (ww (g - m) h i4 a (λ v. ap (λ (k : ℕ). F' k v) (sym q) ∙ sym (s v) ∙ old h v a)) ∙ ap Some (sym q))
      (cases_lt g m))
      (λ a. let q : h ≡ m + (h - m) = omega arith in
      let i4 : h - m < 4 = omega arith in
      ⊎_elim
      (λ b. ap J' q ∙ jn (h - m) i4 ∙ ww (h - m) g i4 b (λ v. ap (λ (k : ℕ). F' k v) (sym q) ∙ s v ∙ old g v b))
      (λ b. let q2 : g ≡ m + (g - m) = omega arith in
      let k4 : g - m < 4 = omega arith in
      let z : h - m ≡ g - m = apart (h - m) (g - m) i4 k4 (λ v. ap (λ (k : ℕ). F' k v) (sym q) ∙ s v ∙ ap (λ (k : ℕ). F' k v) q2) in
      absurd (ne (omega arith)))
      (cases_lt g m))
      (cases_lt h m)

  pub append_exact : Exact F' (m + 4) J'
  append_exact = record {
    near = λ h g l p. (sound h g l p).0;
    other = λ h g l p. (sound h g l p).1;
    same = λ h g l p. (sound h g l p).2;
    whole = whole;
  }
