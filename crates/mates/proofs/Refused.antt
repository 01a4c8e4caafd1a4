-- Which cause refuses to tell a mate.
use Rattle.std.proofs.Common.{ℕ, ◌*◌, ◌<◌, ◌≤◌, List, length, arith}
use Rattle.refusal.specs.declared.Refusal.{Refusal}
use Rattle.refusal.specs.declared.Refusal.TheVariants.{EdgePlaceTooHigh, NoSuchNumber, HalfFaceJoined}
use Rattle.refusal.specs.Numbers.{number_of}
use Rattle.refusal.specs.Causes.{First, NoCause}
use Rattle.rules.specs.Joins.{Joined, OnSkin}
use Rattle.rules.specs.Questions.{HalfCause}
use Rattle.rules.specs.Questions.HalfCause.{absent as no-half}
use Rattle.rules.specs.Mates.{MateCause}
use Rattle.rules.specs.Mates.MateCause.{no_place, absent, joined}
use Rattle.halves.specs.Edges.{PlaceCause}
use Rattle.halves.specs.Edges.PlaceCause.{high}

module _ (rs : List (List ℕ)) (h e : ℕ) where
  -- no cause with a number below m applies
  below : (m : ℕ) → (4 < m → 2 < e → ⊥) → (14 < m → 4 * length rs ≤ h → ⊥) → (17 < m → (g : ℕ) → Joined rs h g → ⊥) → (d : Refusal) → number_of d < m → MateCause rs h e d → ⊥
  below m a b f _ l (no_place k) = a l k
  below m a b f _ l (absent k) = b l k
  below m a b f _ l (joined k) = f l _ k

  pub first_place : 2 < e → First (MateCause rs h e) EdgePlaceTooHigh
  first_place p = record { applies = no_place p; none_before = below 4 (λ l. absurd (omega arith)) (λ l. absurd (omega arith)) (λ l. absurd (omega arith)) }

  pub first_absent : e ≤ 2 → 4 * length rs ≤ h → First (MateCause rs h e) NoSuchNumber
  first_absent q p = record { applies = absent p; none_before = below 14 (λ l k. omega arith) (λ l. absurd (omega arith)) (λ l. absurd (omega arith)) }

  pub first_joined : (g : ℕ) → e ≤ 2 → Joined rs h g → First (MateCause rs h e) HalfFaceJoined
  first_joined g q j = record { applies = joined j; none_before = below 17 (λ l k. omega arith) (λ l k. let n = j.half in omega arith) (λ l. absurd (omega arith)) }

  pub no_mate_cause : e ≤ 2 → OnSkin rs h → NoCause (MateCause rs h e)
  no_mate_cause q o _ (no_place k) = omega arith
  no_mate_cause q o _ (absent k) = let n = o.0 in omega arith
  no_mate_cause q o _ (joined k) = o.1 _ k

  -- what refuses the edge place, or else the half-face, refuses the mate
  pub place_first : (c : Refusal) → First (PlaceCause e) c → First (MateCause rs h e) c
  place_first c f = by c f.applies
    where
      by : (d : Refusal) → PlaceCause e d → First (MateCause rs h e) d
      by _ (high k) = first_place k

  pub half_first : e ≤ 2 → (c : Refusal) → First (HalfCause rs h) c → First (MateCause rs h e) c
  half_first q c f = by c f.applies
    where
      by : (d : Refusal) → HalfCause rs h d → First (MateCause rs h e) d
      by _ (no-half k) = first_absent q k
