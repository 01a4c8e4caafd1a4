use Rattle.std.proofs.Common.{ℕ, List, length, refl, subst}
use Rattle.rules.specs.Questions.{AtEdge, EdgeStarCause, TellsEdgeStar}
use Rattle.rules.specs.Tests.{picks}
use Rattle.rules.proofs.Causes.{edge_first_high, edge_first_high_other, edge_first_equal, edge_first_short, no_edge_cause}
use Rattle.ground.specs.Grounds.{rows_of}
use Rattle.ground.specs.Listed.{has_both}
use Rattle.ground.specs.Nets.{joined_rows}
use Rattle.ground.proofs.Asked.{edge_listed}
use Rattle.ground.proofs.Telling.{told, refused}
use Rattle.ground.proofs.Viewed.{seen}
use Rattle.ground.proofs.stage.Sealed.edge_star.Goals as goal

pub returns-in_err-low : goal.returns-in_err-low
returns-in_err-low c =
    rw (refused c.from_residual.result _ _ c.from_residual.ensures.1 c.in_err-low.ensures.0) (edge_first_high (rows_of c.args.self.now.cells) c.args.v c.args.w (length c.args.out.now) c.in_err-low.ensures.1, refl)

pub returns-in_err-low-2 : goal.returns-in_err-low-2
returns-in_err-low-2 c =
    rw (refused c.from_residual-in_err-low-2.result _ _ c.from_residual-in_err-low-2.ensures.1 c.in_err-low-2.ensures.0) (edge_first_high_other (rows_of c.args.self.now.cells) c.args.v c.args.w (length c.args.out.now) c.in_err-low-2.ensures.1, refl)

pub returns-then-v-w : goal.returns-then-v-w
returns-then-v-w c = (edge_first_equal (rows_of c.args.self.now.cells) c.args.v c.args.w (length c.args.out.now) c.in_ok-low.ensures c.in_ok-low-2.ensures c.if-v-w.true, refl)

pub returns : goal.returns
returns c =
    let t = c.joined.result in
    let rs = joined_rows t in
    let v = c.args.v in
    let w = c.args.w in
    let n = length c.args.out.now in
    let ks = picks (has_both t.records.now v w) t.count in
    let a = edge_listed t.records.now t.count t.standing.room v w in
    let low = c.in_ok-low.ensures in
    let low-other = c.in_ok-low-2.ensures in
    subst (λ (z : List (List ℕ)). TellsEdgeStar z v w c.args.out.now c.list_star.result c.list_star.new.out)
    (seen t c.args.self.now.cells c.joined.ensures.records c.joined.ensures.many)
    (told (EdgeStarCause rs v w n) (AtEdge rs v w) (has_both t.records.now v w) t.count a c.args.out.now c.list_star.new.out c.list_star.result c.list_star.auto.out
    (edge_first_short rs v w n low low-other ks c.if-v-w.false a) (no_edge_cause rs v w n low low-other ks c.if-v-w.false a) c.list_star.ensures)
