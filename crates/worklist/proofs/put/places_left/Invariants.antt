use Rattle.std.proofs.Common.{◌≡◌, ◌+◌, length, take}
use Rattle.worklist.specs.Written.{spaced}
use Rattle.worklist.proofs.put.places_left.Given as goal

abbrev pub invariant-loop-n : goal.invariant-loop-n
invariant-loop-n l = length l.word + length (spaced (take l.n-index l.numbers)) + l.left ≡ l.places
