-- What is told of a half-face and of a list, as it computes.
use Rattle.std.proofs.Common.{◌≡◌, ℕ, ◌+◌, ◌*◌, ◌<◌, List, length, take, Some, None, Option, sym, refl, ◌∙◌, ⊎_elim}
use Rattle.std.proofs.lemmas.List.{length-take-le}
use Rattle.refusal.specs.declared.Refusal.{Refusal}
use Rattle.refusal.specs.Causes.{First}
use Rattle.rules.specs.Rows.{corner, vertices}
use Rattle.rules.specs.Joins.{NoThree, OppositeIs}
use Rattle.rules.specs.Listings.{Many, Filled}
use Rattle.rules.specs.Questions.{HalfCause}
use Rattle.rules.specs.NetTests.{opposite, partner}
use Rattle.rules.proofs.Causes.{no_half_cause}
use Rattle.rules.proofs.Corners.{by_four}
use Rattle.rules.proofs.Opposites.{opposite_joined, joined_opposite}
use Rattle.rules.proofs.Webbed.{cases_option, partner_in}

-- a question about a half-face that is there is not refused
pub half_there : (rs : List (List ℕ)) (h : ℕ) (c : Refusal) → h < 4 * length rs → First (HalfCause rs h) c → ⊥
half_there rs h c l f = no_half_cause rs h l c f.applies

-- the opposite that is told is the one that computes
pub told_opposite : (rs : List (List ℕ)) → NoThree rs → (h : ℕ) (o : Option ℕ) → OppositeIs rs h o → o ≡ opposite rs h
told_opposite rs n h (Some g) j = sym (joined_opposite rs n h g j)
told_opposite rs n h None s = ⊎_elim (λ e. sym e) (λ q. absurd (s.1 q.0 (opposite_joined rs h q.0 s.0 q.1))) (cases_option (opposite rs h))

pub told_partner : (rs : List (List ℕ)) → NoThree rs → (i s : ℕ) (o : Option ℕ) → i < length rs → s < 4 → OppositeIs rs (4 * i + s) o → o ≡ partner rs i s
told_partner rs n i s o l k t = told_opposite rs n (4 * i + s) o t ∙ sym (partner_in rs i s l k)

-- so many numbers have P as are listed
pub filled_many : (P : ℕ → Type 0) (n : ℕ) (old new : List ℕ) → Filled P n old new → Many P n
filled_many P n old new f = (take n new, f.first, sym (length-take-le n new f.fits))

pub vertices_corner : (x : List ℕ) (i : ℕ) → i < 4 → corner (vertices x) i ≡ corner x i
vertices_corner x = by_four (λ (i : ℕ). corner (vertices x) i ≡ corner x i) refl refl refl refl
