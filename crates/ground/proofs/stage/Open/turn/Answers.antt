use Rattle.std.proofs.Common.{refl, arith}
use Rattle.rules.proofs.Causes.{first_no_row, no_row_cause}
use Rattle.ground.specs.Grounds.{plain}
use Rattle.ground.proofs.Grounds.{many, same_plain}
use Rattle.ground.proofs.Telling.{refused}
use Rattle.ground.proofs.stage.Open.turn.Goals as goal

pub returns-in_err-t-clause-turns : goal.returns-in_err-t-clause-turns
returns-in_err-t-clause-turns c =
    let g = c.args.self.now in
    rw (refused c.from_residual.result _ _ c.from_residual.ensures.1 c.in_err-t.ensures.0) (first_no_row (plain g) c.args.t (omega (arith, many g.cells, c.in_err-t.ensures.1)), refl)

pub returns-clause-turns : goal.returns-clause-turns
returns-clause-turns c =
    let g = c.args.self.now in
    let t = c.in_ok-t.ensures in (
      no_row_cause (plain g) c.args.t (omega (arith, many g.cells, t.0, t.1)),
      rw (← t.0) (same_plain _ _ _ _ _ _ c.turn.ensures.list c.turn.ensures.places c.one_more-self.ensures),
    )
