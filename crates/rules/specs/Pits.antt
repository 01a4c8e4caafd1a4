-- Worked examples: small pits, with an edge that is not sound, and with rings of cells.
use Rattle.std.specs.Prelude.{◌≡◌, ℕ, ◌≤◌, List, [], ◌∷◌, map, length, slice_index}
use Rattle.carry.specs.declared.corner.Corner.{Corner}
use Rattle.carry.specs.Corners.{corner_meaning}
use Rattle.carry.specs.Digits.{corner_kind}
use Rattle.carry.specs.Webs.{Web}
use Rattle.carry.specs.Agreement.{Agrees, Grounded}
use Rattle.rules.specs.Rows.{row}
use Rattle.rules.specs.Nets.{CornerWeb}
use Rattle.rules.specs.Soundness.{EdgeSound}

-- two cells that share the edge of 0 and 1 and no triangle
abbrev pub hinged : List (List ℕ)
hinged = row 0 1 2 3 ∷ row 0 1 4 5 ∷ []

-- two cells that share the triangle of 1, 2 and 3
abbrev pub joined_two : List (List ℕ)
joined_two = row 0 1 2 3 ∷ row 1 2 3 4 ∷ []

pub record Edges : Type 0 where
  pub unsound : EdgeSound hinged 0 1 → ⊥
  pub sound : EdgeSound joined_two 1 2

-- three cells round the edge of 0 and 1, and four
abbrev pub three_round : List (List ℕ)
three_round = row 0 1 2 3 ∷ row 0 1 3 4 ∷ row 0 1 4 2 ∷ []

abbrev pub four_round : List (List ℕ)
four_round = row 0 1 2 3 ∷ row 0 1 3 4 ∷ row 0 1 4 5 ∷ row 0 1 5 2 ∷ []

-- w is a corner net of three cells round an edge: no labels agree. Of four: those that agree are 0123, 0132, 0123 and 0132.
pub record Rings : Type 0 where
  pub odd : (w : Web) → CornerWeb three_round w → (xs : List Corner) → 3 ≤ length xs → Agrees w corner_kind (map corner_meaning xs) → ⊥
  pub even : (w : Web) → CornerWeb four_round w → Agrees w corner_kind (123 ∷ 132 ∷ 123 ∷ 132 ∷ [])
  pub only : (w : Web) → CornerWeb four_round w → (ms : List ℕ) → Agrees w corner_kind ms → Grounded w corner_kind ms
      → (slice_index ms 0 ≡ 123) × (slice_index ms 1 ≡ 132) × (slice_index ms 2 ≡ 123) × (slice_index ms 3 ≡ 132)
