use Rattle.std.proofs.Common.{ℕ, ◌≤◌, length, replicate, subst, arith}
use Rattle.std.proofs.lemmas.List.{length-replicate}
use Rattle.std.proofs.lemmas.Bool.{both_ways}
use Rattle.std.proofs.lemmas.Result.{err_from_is_err_and}
use Rattle.rules.specs.Listings.{Many}
use Rattle.rules.specs.Questions.{AtVertex}
use Rattle.rules.proofs.Sounding.{many_twice, first_of_vertex, vertex_nowhere, vertex_no_cause}
use Rattle.rules.proofs.Told.{filled_many}
use Rattle.ground.specs.Grounds.{plain_sealed}
use Rattle.nets.proofs.vertices.vertex_sound.Goals as goal

pub linked-requires : goal.linked-requires
linked-requires c =
    let rs = (plain_sealed c.args.ground.now).list in
    let v = c.args.v in
    many_twice rs v c.in_ok-size.size (filled_many (AtVertex rs v) c.in_ok-size.size (replicate 1024 0) c.star.new.out c.in_ok-size.ensures.1)

pub returns-then-size-eq0 : goal.returns-then-size-eq0
returns-then-size-eq0 c =
    let rs = (plain_sealed c.args.ground.now).list in
    let v = c.args.v in
    let h = c.in_ok-size.ensures in
    let room : length rs ≤ length (replicate {A = ℕ} 1024 0) = omega (arith, length-replicate {A = ℕ} 1024 0, c.counts.ensures.counted.cells, c.counts.ensures.few) in
    vertex_nowhere rs v (length (replicate {A = ℕ} 1024 0)) room h.0
    (subst (Many (AtVertex rs v)) c.if-size-eq0.true (filled_many (AtVertex rs v) c.in_ok-size.size (replicate 1024 0) c.star.new.out h.1))

pub returns-then-linked : goal.returns-then-linked
returns-then-linked c =
    let rs = (plain_sealed c.args.ground.now).list in
    let v = c.args.v in
    let h = c.in_ok-size.ensures in
    let room : length rs ≤ length (replicate {A = ℕ} 1024 0) = omega (arith, length-replicate {A = ℕ} 1024 0, c.counts.ensures.counted.cells, c.counts.ensures.few) in (
      vertex_no_cause rs v (length (replicate {A = ℕ} 1024 0)) room c.in_ok-size.size h.0 (filled_many (AtVertex rs v) c.in_ok-size.size (replicate 1024 0) c.star.new.out h.1) c.if-size-eq0.false,
      ((λ q. record { edges = c.edges_sound.ensures.0 q; cells = c.linked.ensures.0 c.if-linked.true }), (λ s. c.edges_sound.ensures.1 s.edges)),
    )

pub returns-else-linked : goal.returns-else-linked
returns-else-linked c =
    let rs = (plain_sealed c.args.ground.now).list in
    let v = c.args.v in
    let h = c.in_ok-size.ensures in
    let room : length rs ≤ length (replicate {A = ℕ} 1024 0) = omega (arith, length-replicate {A = ℕ} 1024 0, c.counts.ensures.counted.cells, c.counts.ensures.few) in (
      vertex_no_cause rs v (length (replicate {A = ℕ} 1024 0)) room c.in_ok-size.size h.0 (filled_many (AtVertex rs v) c.in_ok-size.size (replicate 1024 0) c.star.new.out h.1) c.if-size-eq0.false,
      ((λ q. absurd (both_ways c.linked.result c.if-linked.false q)), (λ s. c.linked.ensures.1 s.cells)),
    )

pub returns-in_err-size : goal.returns-in_err-size
returns-in_err-size c =
    let rs = (plain_sealed c.args.ground.now).list in
    let room : length rs ≤ length (replicate {A = ℕ} 1024 0) = omega (arith, length-replicate {A = ℕ} 1024 0, c.counts.ensures.counted.cells, c.counts.ensures.few) in
    let p = err_from_is_err_and c.from_residual.result c.from_residual.ensures.1 in
    rw (p.1, p.2) (first_of_vertex rs c.args.v (length (replicate {A = ℕ} 1024 0)) room _ c.in_err-size.ensures.0)
