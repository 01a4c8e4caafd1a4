use Rattle.std.proofs.Common.{sym, subst}
use Rattle.ground.specs.Grounds.{plain_sealed}
use Rattle.index.specs.Held.{held}
use Rattle.indexes.specs.Edges.{EdgeEntries}
use Rattle.index.specs.KeyLemmas.{pair_total}
use Rattle.indexes.proofs.Lookups.{no_longer}
use Rattle.indexes.proofs.Outcomes.{makes}
use Rattle.indexes.proofs.edges.edge_index.Goals as goal

pub returns : goal.returns
returns c =
    let rs = (plain_sealed c.args.ground.now).list in
    makes (EdgeEntries rs) (no_longer pair_total) c.entries.result.now c.args.places.now c.hand_over.result.1 (held c.hand_over.result.0)
    (subst (EdgeEntries rs) (sym c.entries.ensures) c.gather_edges-gathered.ensures) c.hand_over.ensures
