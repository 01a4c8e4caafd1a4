use Rattle.std.proofs.Common.{true, false, sym}
use Rattle.rules.proofs.Listed.{count_on, count_off}
use Rattle.ground.proofs.listing.count_passing.Goals as goal
use Rattle.ground.proofs.listing.count_passing.Goals.{then-passes, else-passes}

pub loop-k-preserved : goal.loop-k-preserved
loop-k-preserved g c =
    let tests = (c.requires.1 c.loop-k.k c.loop-k-test.true).1 in
    elim c.if-passes.branch [
      | then-passes w ↦ count_on g.f c.loop-k.k c.loop-k.found c.if-passes.found (sym (tests true w.if-passes.ensures)) c.loop-k.invariant w.found-is
      | else-passes w ↦ count_off g.f c.loop-k.k c.loop-k.found c.if-passes.found (sym (tests false w.if-passes.ensures)) c.loop-k.invariant w.found-is
    ]
