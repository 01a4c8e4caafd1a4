use Rattle.std.proofs.Common.{ℕ, ◌≤◌, length, replicate, subst, arith}
use Rattle.std.proofs.lemmas.List.{length-replicate}
use Rattle.std.proofs.lemmas.Result.{err_from_is_err_and}
use Rattle.rules.specs.Listings.{Many}
use Rattle.rules.specs.Questions.{AtEdge}
use Rattle.rules.proofs.Sounding.{first_of_edge, edge_nowhere, edge_no_cause}
use Rattle.rules.proofs.Told.{filled_many}
use Rattle.ground.specs.Grounds.{plain_sealed}
use Rattle.nets.proofs.edges.edge_sound.Goals as goal

pub returns-in_err-size : goal.returns-in_err-size
returns-in_err-size c =
    let rs = (plain_sealed c.args.ground.now).list in
    let room : length rs ≤ length (replicate {A = ℕ} 1024 0) = omega (arith, length-replicate {A = ℕ} 1024 0, c.counts.ensures.counted.cells, c.counts.ensures.few) in
    let p = err_from_is_err_and c.from_residual.result c.from_residual.ensures.1 in
    rw (p.1, p.2) (first_of_edge rs c.args.v c.args.w (length (replicate {A = ℕ} 1024 0)) room _ c.in_err-size.ensures.0)

pub returns-then-size-eq0 : goal.returns-then-size-eq0
returns-then-size-eq0 c =
    let rs = (plain_sealed c.args.ground.now).list in
    let v = c.args.v in let w = c.args.w in
    let h = c.in_ok-size.ensures in
    let room : length rs ≤ length (replicate {A = ℕ} 1024 0) = omega (arith, length-replicate {A = ℕ} 1024 0, c.counts.ensures.counted.cells, c.counts.ensures.few) in
    edge_nowhere rs v w (length (replicate {A = ℕ} 1024 0)) room h.0
    (subst (Many (AtEdge rs v w)) c.if-size-eq0.true (filled_many (AtEdge rs v w) c.in_ok-size.size (replicate 1024 0) c.edge_star.new.out h.1))

pub returns : goal.returns
returns c =
    let rs = (plain_sealed c.args.ground.now).list in
    let v = c.args.v in let w = c.args.w in
    let h = c.in_ok-size.ensures in
    let room : length rs ≤ length (replicate {A = ℕ} 1024 0) = omega (arith, length-replicate {A = ℕ} 1024 0, c.counts.ensures.counted.cells, c.counts.ensures.few) in (
      edge_no_cause rs v w (length (replicate {A = ℕ} 1024 0)) room c.in_ok-size.size h.0 (filled_many (AtEdge rs v w) c.in_ok-size.size (replicate 1024 0) c.edge_star.new.out h.1) c.if-size-eq0.false,
      c.linked.ensures,
    )
