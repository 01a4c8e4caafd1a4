use Rattle.std.proofs.Common.{◌≤◌, arith, below_more}
use Rattle.ground.specs.Grounds.{plain_sealed}
use Rattle.index.specs.Held.{held}
use Rattle.indexes.specs.Faces.{OnTriangle}
use Rattle.indexes.specs.Gathered.{Before}
use Rattle.index.specs.KeyLemmas.{triple_total}
use Rattle.indexes.proofs.Lookups.{one_each}
use Rattle.indexes.proofs.Offers.{gathered_as}
use Rattle.indexes.proofs.faces.gather_faces.Goals as goal

pub loop-h-preserved : goal.loop-h-preserved
loop-h-preserved c = record {
  gathered = c.put_face.ensures.gathered;
  room = omega (arith, c.put_face.ensures.room);
  each = below_more _ _ c.loop-h.invariant.each c.put_face.ensures.on;
}

pub returns : goal.returns
returns c =
    let rs = (plain_sealed c.args.ground.now).list in
    let cells = c.counts-half_faces.ensures.counted.cells in
    record {
      each = λ h l. c.loop-h.invariant.each h (omega arith);
      entries = one_each triple_total (held c.loop-h.index).entries c.loop-h.index.rising
          (gathered_as triple_total (Before (OnTriangle rs) c.loop-h.h) (OnTriangle rs) (λ x g. x ≤ g) (λ k g p. p.0) (λ k g p. let l = p.0 in (p, omega arith))
          (held c.loop-h.index).entries c.loop-h.invariant.gathered);
    }
