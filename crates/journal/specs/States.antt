-- What stands between two calls: a ground, and the lists of a caller.
use Rattle.std.specs.Prelude.{ℕ, min, Bool, false, List}
use Rattle.carry.specs.declared.turn.Turn.{Turn}
use Rattle.carry.specs.declared.corner.Corner.{Corner}
use Rattle.carry.specs.Kinds.{Kind}
use Rattle.carry.specs.Webs.{Web}
use Rattle.rules.specs.PlainList.{Plain, empty}
use Rattle.journal.specs.declared.desk.Desk.{Desk}

-- a ground by its plain list, open or sealed
pub record Ground : Type 0 where
  pub plain : Plain
  pub sealed : Bool

-- as made over n places
abbrev pub made : ℕ → Ground
made n = record { plain = empty (min n 1024); sealed = false }

abbrev pub standing : Bool → Plain → Ground
standing b p = record { plain = p; sealed = b }

-- a caller's own net, and what its labels mean
pub record Given (M : Type 0) : Type 0 where
  pub web : Web
  pub kind : Kind
  pub meaning : M → ℕ

abbrev pub net_of : {M : Type 0} → Web → Kind → (M → ℕ) → Given M
net_of w k f = record { web = w; kind = k; meaning = f }

pub record State (M : Type 0) : Type 0 where
  pub ground : Ground
  pub turns : List Turn
  pub corners : List Corner
  pub labels : List M
  pub numbers : List ℕ
  pub marks : List ℕ

-- a ground, and the lists of a desk
abbrev pub state_of : {M : Type 0} → Ground → Desk M → State M
state_of g d = record { ground = g; turns = d.turns.now; corners = d.corners.now; labels = d.labels.now; numbers = d.numbers.now; marks = d.marks.now }

-- another ground, or other lists, and all else as in s
abbrev pub with_ground : {M : Type 0} → State M → Ground → State M
with_ground s g = record { ground = g; turns = s.turns; corners = s.corners; labels = s.labels; numbers = s.numbers; marks = s.marks }

abbrev pub with_turns : {M : Type 0} → State M → List Turn → List ℕ → State M
with_turns s xs ms = record { ground = s.ground; turns = xs; corners = s.corners; labels = s.labels; numbers = s.numbers; marks = ms }

abbrev pub with_corners : {M : Type 0} → State M → List Corner → List ℕ → State M
with_corners s xs ms = record { ground = s.ground; turns = s.turns; corners = xs; labels = s.labels; numbers = s.numbers; marks = ms }

abbrev pub with_labels : {M : Type 0} → State M → List M → List ℕ → State M
with_labels s xs ms = record { ground = s.ground; turns = s.turns; corners = s.corners; labels = xs; numbers = s.numbers; marks = ms }

abbrev pub with_numbers : {M : Type 0} → State M → List ℕ → State M
with_numbers s ns = record { ground = s.ground; turns = s.turns; corners = s.corners; labels = s.labels; numbers = ns; marks = s.marks }
