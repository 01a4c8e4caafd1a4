-- What stands in a list of sides: side 3 i + e is edge place e of item i.
use Rattle.std.specs.Prelude.{ℕ, List, slice_index_or}
use Rattle.carry.specs.declared.turn.Turn.{Turn}
use Rattle.carry.specs.declared.turn.Turn.TheVariants.{Straight}
use Rattle.skin.specs.declared.side.Side.{Side}

-- what a read past the end gives
abbrev pub blank : Side
blank = record { mate = 0; turn = Straight }

-- the side that side k is joined to
abbrev pub mate_at : List Side → ℕ → ℕ
mate_at xs k = (slice_index_or xs k blank).mate

-- the step there
abbrev pub turn_at : List Side → ℕ → Turn
turn_at xs k = (slice_index_or xs k blank).turn
