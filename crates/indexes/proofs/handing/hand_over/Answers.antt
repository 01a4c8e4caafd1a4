use Rattle.std.proofs.Common.{arith}
use Rattle.index.specs.Held.{held}
use Rattle.indexes.proofs.HandingOver.{room, one_more}
use Rattle.indexes.proofs.Offers.{not_refused, stored}
use Rattle.indexes.proofs.handing.hand_over.Goals as goal

pub unwrap-requires : goal.unwrap-requires
unwrap-requires g c =
    not_refused g.K.Key.order c.entry-item.result (held c.loop-entry.index) (held c.put.new.self) c.put.result
    (room g.met.K.Key.total c.args.entries.now c.args.places.now c.requires c.loop-entry.entry-index (omega arith) (omega arith) (held c.loop-entry.index) c.loop-entry.invariant)
    c.put.ensures

pub loop-entry-preserved : goal.loop-entry-preserved
loop-entry-preserved g c =
    one_more g.met.K.Key.total c.args.entries.now c.args.places.now c.requires c.loop-entry.entry-index (omega arith) (omega arith)
    c.entry-item.result (held c.loop-entry.index) (held c.put.new.self) c.entry-item.is c.loop-entry.invariant
    (stored g.K.Key.order c.entry-item.result (held c.loop-entry.index) (held c.put.new.self) c.put.result c.unwrap.result c.unwrap.ensures c.put.ensures)
