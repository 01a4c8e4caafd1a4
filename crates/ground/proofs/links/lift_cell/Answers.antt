use Rattle.std.proofs.Common.{List, sym, ap, ◌∙◌}
use Rattle.std.proofs.lemmas.Bool.{lt-ltb, cond-true}
use Rattle.ground.specs.declared.cell.Cell.{Cell}
use Rattle.ground.specs.Records.{moved_cells}
use Rattle.ground.proofs.links.lift_cell.Goals as goal

pub returns-then-t-last : goal.returns-then-t-last
returns-then-t-last c =
    c.move_cell.ensures ∙ ap (λ (z : List Cell). moved_cells z c.args.last c.args.t) c.free_cell.ensures
    ∙ sym (cond-true _ _ _ (lt-ltb c.args.t c.args.last c.if-t-last.true))
