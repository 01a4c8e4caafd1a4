-- A ground, open or sealed.
use Rattle.std.specs.Prelude.{true, false}
use Rattle.ground.specs.Grounds.{plain, plain_sealed}
use Rattle.journal.specs.declared.stage.Stage.{Stage}
use Rattle.journal.specs.declared.stage.Stage.TheVariants.{Open, Unasked, Sealed}
use Rattle.journal.specs.States.{Ground, standing}

abbrev pub ground_of : Stage → Ground
ground_of (Open g) = standing false (plain g)
ground_of (Unasked g) = standing true (plain g)
ground_of (Sealed g) = standing true (plain_sealed g)
