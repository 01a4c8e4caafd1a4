use Rattle.std.proofs.Common.{take}
use Rattle.worklist.specs.WriterSteps.{Put}
use Rattle.worklist.specs.Written.{spaced}
use Rattle.worklist.proofs.put.put_numbers.Given as goal

abbrev pub invariant-loop-n : goal.invariant-loop-n
invariant-loop-n l = Put l.initial.out l.out l.at (spaced (take l.n-index l.numbers)) l.end
