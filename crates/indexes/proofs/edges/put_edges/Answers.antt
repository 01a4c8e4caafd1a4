use Rattle.rules.specs.Readings.{reads}
use Rattle.halves.specs.HalfFaces.{rows_of}
use Rattle.index.specs.Held.{held}
use Rattle.indexes.proofs.EdgePairs.{three_edges_as, passed}
use Rattle.indexes.proofs.edges.put_edges.Goals as goal

pub returns-clause-gathered : goal.returns-clause-gathered
returns-clause-gathered c =
    let rs = rows_of c.args.f in
    let three = three_edges_as (reads rs c.args.f.number) c.reading.result c.rising_pair.result c.rising_pair-2.result c.rising_pair-3.result c.reading.ensures
    (record { low = c.rising_pair.ensures.rising; both = c.rising_pair.ensures.both })
    (record { low = c.rising_pair-2.ensures.rising; both = c.rising_pair-2.ensures.both })
    (record { low = c.rising_pair-3.ensures.rising; both = c.rising_pair-3.ensures.both }) in
    passed rs c.args.f.number c.args.f.present c.rising_pair.result c.rising_pair-2.result c.rising_pair-3.result three
    (held c.args.index.now).entries (held c.put_edge.new.index).entries (held c.put_edge-2.new.index).entries (held c.put_edge-3.new.index).entries
    c.requires.gathered c.put_edge.ensures.offered c.put_edge-2.ensures.offered c.put_edge-3.ensures.offered
