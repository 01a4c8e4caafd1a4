use Rattle.std.proofs.Common.{ℕ, List, ap, ◌∙◌, arith}
use Rattle.rules.specs.NetTests.{read_at}
use Rattle.rules.proofs.Causes.{first_no_half, no_half_cause}
use Rattle.ground.specs.Grounds.{rows_of}
use Rattle.ground.proofs.Grounds.{many}
use Rattle.ground.proofs.Viewed.{seen}
use Rattle.ground.proofs.Telling.{refused}
use Rattle.ground.proofs.stage.Sealed.reading.Goals as goal

pub returns-in_err-h : goal.returns-in_err-h
returns-in_err-h c =
    let g = c.args.self.now.cells in
    rw (refused c.from_residual.result _ _ c.from_residual.ensures.1 c.in_err-h.ensures.0) (first_no_half (rows_of g) c.args.h (omega (arith, many g, c.in_err-h.ensures.1)))

pub returns : goal.returns
returns c =
    let g = c.args.self.now.cells in
    let h = c.in_ok-h.ensures in (
      no_half_cause (rows_of g) c.args.h (omega (arith, many g, h.0, h.1)),
      c.reading.ensures
          ∙ ap (λ (z : List (List ℕ)). read_at z c.in_ok-h.h) (seen c.joined.result g c.joined.ensures.records c.joined.ensures.many)
          ∙ ap (read_at (rows_of g)) h.0,
    )
