use Rattle.std.proofs.Common.{◌*◌, ◌<◌, List, ap, ◌∙◌, arith}
use Rattle.rules.specs.Joins.{OppositeIs}
use Rattle.rules.proofs.Causes.{first_no_half, no_half_cause}
use Rattle.ground.specs.declared.cell.Cell.{Cell}
use Rattle.ground.specs.Grounds.{rows_of}
use Rattle.ground.specs.Records.{join_at}
use Rattle.ground.proofs.Asked.{opposite_so, only_so}
use Rattle.ground.proofs.Grounds.{many}
use Rattle.ground.proofs.Joining.{joined_one}
use Rattle.ground.proofs.Telling.{refused}
use Rattle.ground.proofs.stage.Sealed.opposite.Goals as goal

pub returns-in_err-h : goal.returns-in_err-h
returns-in_err-h c =
    let g = c.args.self.now.cells in
    rw (refused c.from_residual.result _ _ c.from_residual.ensures.1 c.in_err-h.ensures.0) (record {
      tells = first_no_half (rows_of g) c.args.h (omega (arith, many g, c.in_err-h.ensures.1));
      only = tt;
      no_three = joined_one g.records.now g.count g.standing.room g.standing.law;
    })

pub returns : goal.returns
returns c =
    let g = c.args.self.now.cells in
    let rs = rows_of g in
    let h = c.in_ok-h.ensures in
    let l : c.args.h < 4 * g.count = omega (arith, h.0, h.1) in
    let one = joined_one g.records.now g.count g.standing.room g.standing.law in
    let o : OppositeIs rs c.args.h c.opposite.result = opposite_so g.records.now g.count g.standing c.args.h c.opposite.result l
    (c.opposite.ensures ∙ ap (λ (z : List Cell). join_at z c.in_ok-h.h) c.joined.ensures.records ∙ ap (join_at g.records.now) h.0) in
    record {
      tells = (no_half_cause rs c.args.h (omega (arith, many g, l)), o);
      only = only_so rs one c.args.h c.opposite.result o;
      no_three = one;
    }
