-- What is told of the mate of a half-face.
use Rattle.std.specs.Prelude.{◌≡◌, ℕ, List, Ok, Err, Result}
use Rattle.refusal.specs.declared.Refusal.{Refusal}
use Rattle.refusal.specs.Causes.{Answered}
use Rattle.rules.specs.Mates.{Mated, MateCause}
use Rattle.mates.specs.declared.side.EdgeSide.{EdgeSide}

abbrev pub TellsMate : List (List ℕ) → ℕ → ℕ → Result EdgeSide Refusal → Type 0
TellsMate rs h e = Answered (MateCause rs h e) (λ m. Mated rs h e m.half_face m.place)

-- asked of the mate, the question leads back
abbrev pub LeadsBack : List (List ℕ) → ℕ → ℕ → Result EdgeSide Refusal → Type 0
LeadsBack rs h e (Ok m) = (r : Result EdgeSide Refusal) → TellsMate rs m.half_face m.place r → r ≡ Ok (record { half_face = h; place = e })
LeadsBack rs h e (Err c) = Unit {0}
