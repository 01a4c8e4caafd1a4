use Rattle.std.proofs.Common.{◌≡◌, ◌+◌, List, length, ap, ◌∙◌, refl, rules}
use Rattle.ground.specs.declared.cell.Cell.{Cell}
use Rattle.ground.specs.Records.{rows, laid_cells}
use Rattle.ground.proofs.Grounds.{facts, standing_so, few_so}
use Rattle.ground.proofs.Laid.{rows_laid, length_laid, laid_facts}
use Rattle.ground.proofs.cells.Cells.append.Goals as goal

pub invariant_of-self : goal.invariant_of-self
invariant_of-self c =
    let g = c.args.self.now in
    let x = c.args.corners in
    let four : length c.args.joins ≡ 4 = search rules in
    record {
      few = few_so g.records.now c.lay_cell.new.cells (ap length c.lay_cell.ensures ∙ length_laid g.records.now g.count x c.args.joins) g.few;
      standing = standing_so (laid_cells g.records.now g.count x c.args.joins) _ (g.count + 1) _ c.lay_cell.ensures refl
          (laid_facts g.records.now g.count x c.args.joins c.requires.room c.requires.fine four (facts g) c.requires.met);
    }

pub returns-clause-list : goal.returns-clause-list
returns-clause-list c =
    let g = c.args.self.now in
    ap (λ (z : List Cell). rows z (g.count + 1)) c.lay_cell.ensures ∙ rows_laid g.records.now g.count c.args.corners c.args.joins c.requires.room
