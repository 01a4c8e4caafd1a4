use Rattle.std.proofs.Common.{sym, ◌∙◌}
use Rattle.rules.specs.Readings.{reads}
use Rattle.halves.specs.HalfFaces.{rows_of}
use Rattle.index.specs.Held.{held, Stored}
use Rattle.index.specs.Keys.{triple_order}
use Rattle.indexes.specs.Faces.{OnTriangle}
use Rattle.index.specs.KeyLemmas.{triple_total}
use Rattle.indexes.proofs.Lookups.{none_from, some_from}
use Rattle.indexes.proofs.Offers.{not_refused, stored, room_left}
use Rattle.indexes.proofs.Triangles.{sorts_as, put_new, kept}
use Rattle.indexes.proofs.faces.put_face.Goals as goal
use Rattle.indexes.proofs.faces.put_face.Goals.{After-rising_triple-key, After-unwrap}

pub unwrap-requires : goal.unwrap-requires
unwrap-requires c = not_refused triple_order _ (held c.args.index.now) (held c.put.new.self) c.put.result c.requires.room c.put.ensures

-- its triangle
key : (c : After-rising_triple-key) → OnTriangle (rows_of c.args.f) c.rising_triple-key.result c.args.f.number
key c = (c.args.f.present, sorts_as (reads (rows_of c.args.f) c.args.f.number) c.reading.result c.rising_triple-key.result c.reading.ensures c.rising_triple-key.ensures)

put : (c : After-unwrap) → Stored triple_order (record { key = c.rising_triple-key.result; half_face = c.args.f.number }) (held c.args.index.now) (held c.put.new.self)
put c = stored triple_order _ (held c.args.index.now) (held c.put.new.self) c.put.result c.unwrap.result c.unwrap.ensures c.put.ensures

pub returns-then-is_none-clause-gathered : goal.returns-then-is_none-clause-gathered
returns-then-is_none-clause-gathered c =
    put_new (rows_of c.args.f) c.rising_triple-key.result c.args.f.number (key (goal.at.returns-then-is_none-clause-gathered c).After-rising_triple-key)
    (held c.args.index.now) (held c.put.new.self) c.requires.gathered (sym c.find.ensures ∙ none_from c.find.result c.if-is_none.ensures) (put (goal.at.returns-then-is_none-clause-gathered c).After-unwrap)

pub returns-then-is_none-clause-room : goal.returns-then-is_none-clause-room
returns-then-is_none-clause-room c = room_left triple_total _ (held c.args.index.now) (held c.put.new.self) (put (goal.at.returns-then-is_none-clause-room c).After-unwrap)

pub returns-else-is_none-clause-gathered : goal.returns-else-is_none-clause-gathered
returns-else-is_none-clause-gathered c =
    let x = some_from c.find.result c.if-is_none.ensures in
    kept (rows_of c.args.f) c.rising_triple-key.result c.args.f.number (key (goal.at.returns-else-is_none-clause-gathered c).After-rising_triple-key)
    (held c.args.index.now).entries c.requires.gathered x.0 (sym c.find.ensures ∙ x.1)
