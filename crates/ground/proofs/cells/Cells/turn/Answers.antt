use Rattle.std.proofs.Common.{List, length, refl, ap, ◌∙◌, arith}
use Rattle.ground.specs.declared.cell.Cell.{Cell}
use Rattle.ground.specs.Records.{rows, turned_cells}
use Rattle.ground.proofs.Grounds.{facts, standing_so, few_so, near_all}
use Rattle.ground.proofs.Records.{rows_turned}
use Rattle.ground.proofs.Turned.{turned_facts, length_turned}
use Rattle.ground.proofs.cells.Cells.turn.Goals as goal

pub turn_cell-requires : goal.turn_cell-requires
turn_cell-requires c =
    let g = c.args.self.now in
    let l = c.requires in
    let few = g.few in
    let room = g.standing.room in
    record { low = omega arith; inside = omega arith; near = near_all g.records.now g.count c.args.t (facts g) l }

pub invariant_of-self : goal.invariant_of-self
invariant_of-self c =
    let g = c.args.self.now in
    record {
      few = few_so g.records.now c.turn_cell.new.cells (ap length c.turn_cell.ensures ∙ length_turned g.records.now c.args.t) g.few;
      standing = standing_so (turned_cells g.records.now c.args.t) _ g.count _ c.turn_cell.ensures refl (turned_facts g.records.now g.count c.args.t c.requires (facts g));
    }

pub returns-clause-list : goal.returns-clause-list
returns-clause-list c =
    let g = c.args.self.now in
    ap (λ (z : List Cell). rows z g.count) c.turn_cell.ensures ∙ rows_turned g.records.now g.count c.args.t g.standing.room c.requires
