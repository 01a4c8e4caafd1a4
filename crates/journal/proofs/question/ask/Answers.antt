use Rattle.std.proofs.Common.{◌≡◌, Some, refl, rules}
use Rattle.rules.specs.Questions.{TellsStar, TellsEdgeStar, TellsSkin}
use Rattle.ground.specs.Grounds.{plain_sealed}
use Rattle.journal.specs.declared.calls.Answer.TheVariants.{Number}
use Rattle.journal.specs.Answers.{replied}
use Rattle.journal.specs.Steps.Tried.{makes}
use Rattle.journal.proofs.Lending.{listed}
use Rattle.journal.proofs.question.ask.Goals as goal

pub returns-in_ok-part-in-Star : goal.returns-in_ok-part-in-Star
returns-in_ok-part-in-Star g c =
    let p = c.in_ok-part-in-Star.ensures in
    let e : Some c.map-in-Star.result ≡ replied Number c.star.result = search rules in
    rw c.in-Star.is
    (makes p.fits (
      listed (TellsStar (plain_sealed c.args.ground.now).list c.in-Star.v) c.in-Star.k c.in_ok-part-in-Star.part c.args.desk.now.numbers.now c.star.new.out c.star.result (Some c.map-in-Star.result)
          (record { within = p; same = c.star.auto.out }) e c.star.ensures,
      refl,
    ))

pub returns-in_ok-part-in-EdgeStar : goal.returns-in_ok-part-in-EdgeStar
returns-in_ok-part-in-EdgeStar g c =
    let p = c.in_ok-part-in-EdgeStar.ensures in
    let e : Some c.map-in-EdgeStar.result ≡ replied Number c.edge_star-listed.result = search rules in
    rw c.in-EdgeStar.is
    (makes p.fits (
      listed (TellsEdgeStar (plain_sealed c.args.ground.now).list c.in-EdgeStar.v c.in-EdgeStar.w) c.in-EdgeStar.k c.in_ok-part-in-EdgeStar.part c.args.desk.now.numbers.now c.edge_star-listed.new.out c.edge_star-listed.result (Some c.map-in-EdgeStar.result)
          (record { within = p; same = c.edge_star-listed.auto.out }) e c.edge_star-listed.ensures,
      refl,
    ))

pub returns-in_ok-part-in-Skin : goal.returns-in_ok-part-in-Skin
returns-in_ok-part-in-Skin g c =
    let p = c.in_ok-part-in-Skin.ensures in
    let e : Some c.map-in-Skin.result ≡ replied Number c.skin.result = search rules in
    rw c.in-Skin.is
    (makes p.fits (
      listed (TellsSkin (plain_sealed c.args.ground.now).list) c.in-Skin.k c.in_ok-part-in-Skin.part c.args.desk.now.numbers.now c.skin.new.out c.skin.result (Some c.map-in-Skin.result)
          (record { within = p; same = c.skin.auto.out }) e c.skin.ensures,
      refl,
    ))
