use Rattle.std.proofs.Common.{true, false, length, sym, arith}
use Rattle.rules.proofs.Listed.{place_for, write_on, write_off}
use Rattle.ground.proofs.listing.write_passing.Goals as goal
use Rattle.ground.proofs.listing.write_passing.Goals.{then-passes, else-passes}

pub bounds-out-found : goal.bounds-out-found
bounds-out-found g c =
    let k = c.loop-k.auto.out in
    let tests = (c.requires.1.0 c.loop-k.k c.loop-k-test.true).1 in
    let l = place_for g.f c.loop-k.k c.loop-k.found c.args.n (length c.args.out.now) (sym (tests true c.if-passes.ensures)) c.loop-k.invariant.count.0 c.loop-k-test.true (omega arith) in
    omega arith

pub loop-k-preserved : goal.loop-k-preserved
loop-k-preserved g c =
    let tests = (c.requires.1.0 c.loop-k.k c.loop-k-test.true).1 in
    elim c.if-passes.branch [
      | then-passes w ↦
          (let k = c.loop-k.auto.out in
          let p = sym (tests true w.if-passes.ensures) in
          let l = place_for g.f c.loop-k.k c.loop-k.found c.args.n (length c.args.out.now) p c.loop-k.invariant.count.0 c.loop-k-test.true (omega arith) in
          write_on g.f c.loop-k.k c.loop-k.found c.if-passes.found c.args.out.now c.loop-k.out c.if-passes.out p (omega arith) c.loop-k.invariant w.found-is w.out-is)
      | else-passes w ↦ write_off g.f c.loop-k.k c.loop-k.found c.if-passes.found c.args.out.now c.loop-k.out c.if-passes.out (sym (tests false w.if-passes.ensures)) c.loop-k.invariant w.found-is w.out-is
    ]
