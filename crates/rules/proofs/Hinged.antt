-- An edge that is not sound and one that is, by computation.
use Rattle.std.proofs.Common.{◌≡◌, ℕ, zero, suc, ◌<◌, Some, None, sym, refl, inl, inr, arith}
use Rattle.std.proofs.lemmas.Bool.{both_ways}
use Rattle.rules.specs.Joins.{Joined}
use Rattle.rules.specs.NetTests.{meets, lowest, opposite}
use Rattle.rules.specs.Soundness.{Leads, EdgeSound}
use Rattle.rules.specs.Soundness.Leads.{stays, crosses}
use Rattle.rules.specs.Pits.{hinged, joined_two, Edges}
use Rattle.rules.proofs.Corners.{by_four}
use Rattle.rules.proofs.Opposites.{joined_faces, opposite_joined}
use Rattle.rules.proofs.Webbed.{lowest_none, meets_to}

-- no half-face of the first cell is joined
lone : (lowest (meets hinged 0) 8 ≡ None) × (lowest (meets hinged 1) 8 ≡ None) × (lowest (meets hinged 2) 8 ≡ None) × (lowest (meets hinged 3) 8 ≡ None)
unfolding lowest meets
lone = (refl, refl, refl, refl)

open_first : (h g : ℕ) → h < 4 → Joined hinged h g → ⊥
open_first h g l j =
    let e = by_four (λ (k : ℕ). lowest (meets hinged k) 8 ≡ None) lone.0 lone.1 lone.2 lone.3 h l in
    both_ways (meets hinged h g) (lowest_none (meets hinged h) 8 e g j.there) (meets_to hinged h g (λ q. j.other (sym q)) (joined_faces hinged h g j))

stuck : {t : ℕ} → Leads hinged 0 1 0 t → t ≡ 0
stuck stays = refl
stuck (crosses {h = h} {g = g} r j b) = let z = stuck r in absurd (open_first h g (omega arith) j)

unsound_hinged : EdgeSound hinged 0 1 → ⊥
unsound_hinged s =
    let z = stuck (s 0 1 (omega arith, (0, omega arith, refl), (1, omega arith, refl)) (omega arith, (0, omega arith, refl), (1, omega arith, refl))) in
    omega arith

there : opposite joined_two 0 ≡ Some 7
unfolding opposite lowest meets
there = refl

back : opposite joined_two 7 ≡ Some 0
unfolding opposite lowest meets
back = refl

sound_two : EdgeSound joined_two 1 2
sound_two zero zero a b = stays
sound_two zero (suc zero) a b = crosses {h = 0} {g = 7} stays (opposite_joined joined_two 0 7 (omega arith) there) (inl refl, inr (inl refl))
sound_two (suc zero) zero a b = crosses {h = 7} {g = 0} stays (opposite_joined joined_two 7 0 (omega arith) back) (inl refl, inr (inr refl))
sound_two (suc zero) (suc zero) a b = stays
sound_two (suc (suc s)) t a b = let l = a.0 in absurd (omega arith)
sound_two zero (suc (suc t)) a b = let l = b.0 in absurd (omega arith)
sound_two (suc zero) (suc (suc t)) a b = let l = b.0 in absurd (omega arith)

pub edges : Edges
edges = record { unsound = unsound_hinged; sound = sound_two }
