-- What the corner net of a ground means.
use Rattle.std.specs.Prelude.{◌≡◌, ℕ, Some, None, Option}
use Rattle.carry.specs.declared.corner.Corner.{Corner}
use Rattle.carry.specs.Corners.{corner_meaning}
use Rattle.carry.specs.Digits.{corner_kind}
use Rattle.carry.specs.Webs.{Web}
use Rattle.rules.specs.NetTests.{corner_web}
use Rattle.ground.specs.Grounds.{plain_sealed}
use Rattle.nets.specs.declared.corners.CornerNet.{CornerNet}

abbrev pub corner_net_web : CornerNet → Web
corner_net_web n = corner_web (plain_sealed n.ground.now).list

-- the step of a web at a side, told as the corner label over the join there, or none if there is no join
abbrev pub Crosses : Web → ℕ → ℕ → Option Corner → Type 0
Crosses w i s (Some x) = corner_meaning x ≡ w.steps i s
Crosses w i s None = corner_kind.neutral ≡ w.steps i s
