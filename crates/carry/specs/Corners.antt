-- What a corner label means: its four digits as one number.
use Rattle.std.specs.Prelude.{ℕ}
use Rattle.carry.specs.declared.corner.Corner.{Corner}
use Rattle.carry.specs.Digits.{number}

abbrev pub corner_meaning : Corner → ℕ
corner_meaning x = number x.a x.b x.c x.d
