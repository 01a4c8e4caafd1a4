-- Half-faces with their triangles F and their opposites J, as functions: what a change of the numbers keeps.
use Rattle.std.proofs.Common.{◌≡◌, ℕ, ◌<◌, Bool, true, Some, None, Option, sym, refl, ap, ◌∙◌}
use Rattle.std.proofs.lemmas.Bool.{eqb-true, eq-eqb, false≢true}
use Rattle.rules.specs.Tests.{names}

pub record Exact (F : ℕ → ℕ → Bool) (m : ℕ) (J : ℕ → Option ℕ) : Type 0 where
  pub near : (h g : ℕ) → h < m → J h ≡ Some g → g < m
  pub other : (h g : ℕ) → h < m → J h ≡ Some g → g ≡ h → ⊥
  pub same : (h g : ℕ) → h < m → J h ≡ Some g → (v : ℕ) → F h v ≡ F g v
  pub whole : (h g : ℕ) → h < m → g < m → (g ≡ h → ⊥) → ((v : ℕ) → F h v ≡ F g v) → J h ≡ Some g

pub named : (o : Option ℕ) (g : ℕ) → names o g ≡ true → o ≡ Some g
named None g p = absurd (false≢true p)
named (Some k) g p = ap Some (eqb-true k g p)

pub names_some : (o : Option ℕ) (g : ℕ) → o ≡ Some g → names o g ≡ true
names_some o g p = ap (λ (x : Option ℕ). names x g) p ∙ eq-eqb g g refl

pub back : (F : ℕ → ℕ → Bool) (m : ℕ) (J : ℕ → Option ℕ) → Exact F m J → (h g : ℕ) → h < m → J h ≡ Some g → J g ≡ Some h
back F m J e h g l p = e.whole g h (e.near h g l p) l (λ q. e.other h g l p (sym q)) (λ v. sym (e.same h g l p v))

-- the half-face h of the new list is the half-face σ h of the old
pub renumber : (F F' : ℕ → ℕ → Bool) (m m' : ℕ) (J J' : ℕ → Option ℕ) (σ : ℕ → ℕ)
    → ((h g : ℕ) → h < m' → g < m' → σ g ≡ σ h → g ≡ h)
    → ((h : ℕ) → h < m' → σ h < m)
    → ((h v : ℕ) → h < m' → F' h v ≡ F (σ h) v)
    → ((h g : ℕ) → h < m' → J' h ≡ Some g → (g < m') × (J (σ h) ≡ Some (σ g)))
    → ((h g : ℕ) → h < m' → g < m' → J (σ h) ≡ Some (σ g) → J' h ≡ Some g)
    → Exact F m J → Exact F' m' J'
renumber F F' m m' J J' σ inj bound faces to from e = record {
  near = λ h g l p. (to h g l p).0;
  other = λ h g l p q. e.other (σ h) (σ g) (bound h l) (to h g l p).1 (ap σ q);
  same = λ h g l p v. faces h v l ∙ e.same (σ h) (σ g) (bound h l) (to h g l p).1 v ∙ sym (faces g v (to h g l p).0);
  whole = λ h g l k ne s. from h g l k (e.whole (σ h) (σ g) (bound h l) (bound g k) (λ q. ne (inj h g l k q)) (λ v. sym (faces h v l) ∙ s v ∙ faces g v k));
}
