use Rattle.std.proofs.Common.{arith}
use Rattle.ground.specs.Grounds.{plain_sealed}
use Rattle.index.specs.Held.{held}
use Rattle.indexes.specs.Edges.{OnEdge, RatherHalf}
use Rattle.indexes.specs.Gathered.{Before}
use Rattle.index.specs.KeyLemmas.{pair_total}
use Rattle.indexes.proofs.Lookups.{one_each}
use Rattle.indexes.proofs.Offers.{gathered_as}
use Rattle.indexes.proofs.edges.gather_edges.Goals as goal

pub returns : goal.returns
returns c =
    let rs = (plain_sealed c.args.ground.now).list in
    let cells = c.counts-half_faces.ensures.counted.cells in
    one_each pair_total (held c.loop-h.index).entries c.loop-h.index.rising
    (gathered_as pair_total (Before (OnEdge rs) c.loop-h.h) (OnEdge rs) (RatherHalf rs) (λ k g p. p.0) (λ k g p. let l = p.0 in (p, omega arith))
    (held c.loop-h.index).entries c.loop-h.invariant.0)
