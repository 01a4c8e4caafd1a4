use Rattle.std.proofs.Common.{◌≡◌, length}
use Rattle.ground.specs.Records.{relinked_first}
use Rattle.ground.proofs.links.relink_all.Given as goal

abbrev pub invariant-loop-half : goal.invariant-loop-half
invariant-loop-half l = l.cells ≡ relinked_first (length l.yielded) l.initial.cells l.fn.whom l.fn.to
