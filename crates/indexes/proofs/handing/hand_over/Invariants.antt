use Rattle.index.specs.Held.{held}
use Rattle.indexes.proofs.HandingOver.{Handed}
use Rattle.indexes.proofs.handing.hand_over.Given as goal

abbrev pub invariant-loop-entry : goal.invariant-loop-entry
invariant-loop-entry g l = Handed l.entries l.fn.places l.entry-index (held l.index)
