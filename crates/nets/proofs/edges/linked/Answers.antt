use Rattle.std.proofs.Common.{ℕ, ◌+◌, ◌≤◌, length, replicate, arith}
use Rattle.std.proofs.lemmas.List.{length-replicate}
use Rattle.std.proofs.lemmas.Bool.{leb-true, le-leb}
use Rattle.carry.specs.declared.turn.Turn.TheVariants.{Straight}
use Rattle.rules.proofs.Counted.{counted_le}
use Rattle.rules.proofs.Starred.{star_counts, never_refused, linked_few, few_linked}
use Rattle.rules.proofs.Sounding.{star_fits}
use Rattle.ground.specs.Grounds.{plain_sealed}
use Rattle.nets.proofs.edges.linked.Goals as goal

pub overflow_add-result : goal.overflow_add-result
overflow_add-result c =
    let rs = (plain_sealed c.args.ground.now).list in
    let z = c.counts-count.ensures.counted.cells in
    let f = c.counts-count.ensures.few in
    let a = counted_le c.in-Ok.ensures.1.counted in
    let b = star_fits rs c.args.v c.args.w c.args.size c.requires in
    omega arith

pub returns : goal.returns
returns c =
    let rs = (plain_sealed c.args.ground.now).list in
    let v = c.args.v in let w = c.args.w in
    let z = c.counts-count.ensures.counted.cells in
    let f = c.counts-count.ensures.few in
    let count = c.counts-count.result.cells in
    let few : length rs ≤ 1024 = omega arith in
    let n = c.counts-count.ensures.lawful.no_three in
    let p = c.in-Ok.pieces in
    let q = c.args.size in
    let acc = c.in-Ok.ensures.1 in
    let cells = star_counts rs v w q c.requires in (
      (λ b. let l = leb-true (p + q) (count + 1) b in linked_few rs v w n few _ p q acc cells (omega arith)),
      (λ s. let m = few_linked rs v w n few _ p q acc cells s in le-leb (p + q) (count + 1) (omega arith)),
    )

pub unreachable-requires : goal.unreachable-requires
unreachable-requires c =
    let rs = (plain_sealed c.args.ground.now).list in
    let z = c.counts-count.ensures.counted.cells in
    let f = c.counts-count.ensures.few in
    let a = length-replicate 1024 Straight in
    let b = length-replicate {A = ℕ} 1024 0 in
    never_refused rs c.args.v c.args.w (replicate 1024 Straight) (replicate 1024 0) (omega arith) (omega arith) c.in_default.field-0 c.in_default.ensures.0.applies
