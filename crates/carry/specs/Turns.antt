-- What a turn means: 0 or 1, added modulo 2. Each turn is its own inverse.
use Rattle.std.specs.Prelude.{ℕ, ◌+◌, ◌%◌}
use Rattle.carry.specs.declared.turn.Turn.{Turn}
use Rattle.carry.specs.declared.turn.Turn.TheVariants.{Straight, Turned}
use Rattle.carry.specs.Kinds.{Kind}

abbrev pub turn_meaning : Turn → ℕ
turn_meaning Straight = 0
turn_meaning Turned = 1

abbrev pub turn_kind : Kind
turn_kind = record { neutral = 0; combined = λ a b. (a + b) % 2; inverse = λ a. a }
