use Rattle.std.proofs.Common.{refl, arith}
use Rattle.rules.proofs.Causes.{first_no_row, no_row_cause}
use Rattle.ground.specs.Grounds.{plain}
use Rattle.ground.proofs.Grounds.{many, same_plain}
use Rattle.ground.proofs.Telling.{refused}
use Rattle.ground.proofs.stage.Open.lift.Goals as goal

pub returns-in_err-t-clause-lifts : goal.returns-in_err-t-clause-lifts
returns-in_err-t-clause-lifts c =
    let g = c.args.self.now in
    rw (refused c.from_residual.result _ _ c.from_residual.ensures.1 c.in_err-t.ensures.0) (first_no_row (plain g) c.args.t (omega (arith, many g.cells, c.in_err-t.ensures.1)), refl)

pub returns-clause-lifts : goal.returns-clause-lifts
returns-clause-lifts c =
    let g = c.args.self.now in
    let t = c.in_ok-t.ensures in (
      no_row_cause (plain g) c.args.t (omega (arith, many g.cells, t.0, t.1)),
      rw (← t.0) (same_plain _ _ _ _ _ _ c.remove.ensures.list c.remove.ensures.places c.one_more-self.ensures),
    )
