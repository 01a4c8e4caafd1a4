use Rattle.std.proofs.Common.{ℕ, List, length, refl, subst}
use Rattle.rules.specs.Questions.{AtVertex, StarCause, TellsStar}
use Rattle.rules.specs.Tests.{picks}
use Rattle.rules.proofs.Causes.{star_first_high, star_first_short, no_star_cause}
use Rattle.ground.specs.Grounds.{rows_of}
use Rattle.ground.specs.Listed.{has_both}
use Rattle.ground.specs.Nets.{joined_rows}
use Rattle.ground.proofs.Asked.{star_listed}
use Rattle.ground.proofs.Telling.{told, refused}
use Rattle.ground.proofs.Viewed.{seen}
use Rattle.ground.proofs.stage.Sealed.star.Goals as goal

pub returns-in_err-low : goal.returns-in_err-low
returns-in_err-low c =
    rw (refused c.from_residual.result _ _ c.from_residual.ensures.1 c.in_err-low.ensures.0) (star_first_high (rows_of c.args.self.now.cells) c.args.v (length c.args.out.now) c.in_err-low.ensures.1, refl)

pub returns : goal.returns
returns c =
    let t = c.joined.result in
    let rs = joined_rows t in
    let v = c.args.v in
    let n = length c.args.out.now in
    let ks = picks (has_both t.records.now v v) t.count in
    let a = star_listed t.records.now t.count t.standing.room v in
    let low = c.in_ok-low.ensures in
    subst (λ (z : List (List ℕ)). TellsStar z v c.args.out.now c.list_star.result c.list_star.new.out)
    (seen t c.args.self.now.cells c.joined.ensures.records c.joined.ensures.many)
    (told (StarCause rs v n) (AtVertex rs v) (has_both t.records.now v v) t.count a c.args.out.now c.list_star.new.out c.list_star.result c.list_star.auto.out
    (star_first_short rs v n ks low a) (no_star_cause rs v n ks low a) c.list_star.ensures)
