-- The worked examples that are proved.
use Rattle.std.specs.Prelude.{List, [], ◌∷◌, ◌++◌}
use Rattle.refusal.specs.declared.Refusal.TheVariants.{VertexTooHigh, VerticesEqual, CellPresent}
use Rattle.carry.specs.declared.turn.Turn.TheVariants.{Straight}
use Rattle.carry.specs.Digits.{number}
use Rattle.cases.specs.Cases.{Call, Case}
use Rattle.cases.specs.Cases.Call.{lay, lift, turn}
use Rattle.cases.specs.Cases.Net.{turns, corners}
use Rattle.cases.specs.Cases.Claim.{opposed, alike, unjoined, lays, lay_refused, edge_cells, sound, unsound, labels, no_labels, orients, orient_refused, mate}
use Rattle.cases.specs.Cases.Case.{after}

abbrev pub one_cell : List Call
one_cell = lay 0 1 2 3 ∷ []

-- two cells that share the triangle of 1, 2 and 3, and a third that shares that of 2, 3 and 4 with the second
abbrev pub two_cells : List Call
two_cells = lay 0 1 2 3 ∷ lay 1 2 3 4 ∷ []

abbrev pub three_cells : List Call
three_cells = two_cells ++ lay 2 3 4 5 ∷ []

-- two cells that share the edge of 0 and 1 and no triangle
abbrev pub hinged : List Call
hinged = lay 0 1 2 3 ∷ lay 0 1 4 5 ∷ []

-- three cells round the edge of 0 and 1, and four
abbrev pub three_round : List Call
three_round = lay 0 1 2 3 ∷ lay 0 1 3 4 ∷ lay 0 1 4 2 ∷ []

abbrev pub four_round : List Call
four_round = lay 0 1 2 3 ∷ lay 0 1 3 4 ∷ lay 0 1 4 5 ∷ lay 0 1 5 2 ∷ []

-- a ring of seven cells that closes with a twist
abbrev pub twisted : List Call
twisted = lay 0 1 2 3 ∷ lay 1 2 3 4 ∷ lay 2 3 4 5 ∷ lay 3 4 5 6 ∷ lay 4 5 6 1 ∷ lay 5 6 1 0 ∷ lay 6 1 0 2 ∷ []

unfoldable pub cases : List Case
cases =
    -- joins
    after two_cells (opposed 0 7) ∷
    after (two_cells ++ turn 1 ∷ []) (alike 0 6) ∷
    after three_cells (opposed 4 11) ∷
    after (three_cells ++ lift 0 ∷ []) (opposed 4 3) ∷
    after (three_cells ++ lift 0 ∷ []) (unjoined 7) ∷
    -- what lay is answered
    after one_cell (lay_refused 1 0 2 3 CellPresent) ∷
    after one_cell (lay_refused 0 1 2 2 VerticesEqual) ∷
    after one_cell (lay_refused 0 1 2 4096 VertexTooHigh) ∷
    after one_cell (lays 0 1 2 4095 1) ∷
    -- edges
    after hinged (edge_cells 0 1 (0 ∷ 1 ∷ [])) ∷
    after hinged (unsound 0 1 (0 ∷ [])) ∷
    after two_cells (sound 1 2) ∷
    -- labels
    after three_round (labels turns (0 ∷ 0 ∷ 0 ∷ [])) ∷
    after three_round (no_labels corners (2 ∷ 6 ∷ 10 ∷ [])) ∷
    after four_round (labels corners (number 0 1 2 3 ∷ number 0 1 3 2 ∷ number 0 1 2 3 ∷ number 0 1 3 2 ∷ [])) ∷
    after twisted (no_labels turns (0 ∷ 4 ∷ 8 ∷ 12 ∷ 16 ∷ 20 ∷ 24 ∷ [])) ∷
    -- orient
    after twisted (orient_refused (0 ∷ 4 ∷ 8 ∷ 12 ∷ 16 ∷ 20 ∷ 24 ∷ [])) ∷
    after (twisted ++ lift 6 ∷ []) (labels turns (0 ∷ 0 ∷ 0 ∷ 0 ∷ 0 ∷ 0 ∷ [])) ∷
    after (twisted ++ lift 6 ∷ []) (orients 0 (Straight ∷ Straight ∷ Straight ∷ Straight ∷ Straight ∷ Straight ∷ [])) ∷
    -- mates
    after one_cell (mate 0 0 3 1) ∷
    []
