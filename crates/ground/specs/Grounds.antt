-- The plain list that a ground stands for.
use Rattle.std.specs.Prelude.{◌≡◌, ℕ, List, length, Ok, Err, Result}
use Rattle.refusal.specs.declared.Refusal.{Refusal}
use Rattle.rules.specs.PlainList.{Plain}
use Rattle.ground.specs.declared.cell.Cell.{Cell}
use Rattle.ground.specs.declared.cells.Cells.{Cells}
use Rattle.ground.specs.declared.stage.Open.{Open}
use Rattle.ground.specs.declared.stage.Sealed.{Sealed}
use Rattle.ground.specs.Records.{rows}

-- the first n records, with the count of accepted changes
abbrev pub plain_of : List Cell → ℕ → ℕ → Plain
plain_of cs n changes = record { list = rows cs n; places = length cs; changes = changes }

-- the rows of the cells in use
abbrev pub rows_of : Cells → List (List ℕ)
rows_of c = rows c.records.now c.count

-- of an open ground
abbrev pub plain : Open → Plain
plain g = plain_of g.cells.records.now g.cells.count g.changes

-- of a sealed ground
abbrev pub plain_sealed : Sealed → Plain
plain_sealed g = plain_of g.cells.records.now g.cells.count g.changes

-- all places of an open ground, those too that no cell uses
abbrev pub places_of : Open → List Cell
places_of g = g.cells.records.now

-- a refused call leaves every record as it was, those too that no cell uses
abbrev pub Kept : {A : Type 0} → Result A Refusal → List Cell → List Cell → Type 0
Kept (Ok _) old new = Unit {0}
Kept (Err c) old new = new ≡ old
