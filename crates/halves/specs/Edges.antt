-- The edge places of a half-face.
use Rattle.std.specs.Prelude.{◌≡◌, ℕ, ◌<◌, Result}
use Rattle.refusal.specs.declared.Refusal.{Refusal}
use Rattle.refusal.specs.declared.Refusal.TheVariants.{EdgePlaceTooHigh}
use Rattle.refusal.specs.Causes.{Answered}
use Rattle.halves.specs.declared.edge.EdgePlace.{EdgePlace}

-- what refuses to name an edge place by its number
pub data PlaceCause (e : ℕ) : Refusal → Type 0 where
  high : 2 < e → PlaceCause e EdgePlaceTooHigh

abbrev pub TellsPlace : ℕ → Result EdgePlace Refusal → Type 0
TellsPlace e = Answered (PlaceCause e) (λ place. place.number ≡ e)
