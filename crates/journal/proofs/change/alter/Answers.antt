use Rattle.std.proofs.Common.{◌≡◌, Some, refl, rules}
use Rattle.ground.specs.Grounds.{plain}
use Rattle.journal.specs.declared.calls.Answer.TheVariants.{Number, Done}
use Rattle.journal.specs.Answers.{replied}
use Rattle.journal.specs.Steps.Changed.{lays, lifts, turns}
use Rattle.journal.specs.Steps.Tried.{makes}
use Rattle.journal.proofs.Lending.{oriented}
use Rattle.journal.proofs.change.alter.Goals as goal

pub returns-in-Lay : goal.returns-in-Lay
returns-in-Lay g c =
    let e : Some c.map.result ≡ replied Number c.lay.result = search rules in
    rw (c.in-Lay.is, e) (makes tt (lays c.lay.result c.lay.ensures.lays, refl))

pub returns-in-Lift : goal.returns-in-Lift
returns-in-Lift g c =
    let e : Some c.map-in-Lift.result ≡ replied (λ _. Done) c.lift.result = search rules in
    rw (c.in-Lift.is, e) (makes tt (lifts c.lift.result c.lift.ensures.lifts, refl))

pub returns-in-Turn : goal.returns-in-Turn
returns-in-Turn g c =
    let e : Some c.map-in-Turn.result ≡ replied (λ _. Done) c.turn.result = search rules in
    rw (c.in-Turn.is, e) (makes tt (turns c.turn.result c.turn.ensures.turns, refl))

pub returns-in_ok-m-in-Orient : goal.returns-in_ok-m-in-Orient
returns-in_ok-m-in-Orient g c =
    let k = c.in_ok-k-in-Orient.ensures in
    let m = c.in_ok-m-in-Orient.ensures in
    let e : Some c.map-in-Orient.result ≡ replied Number c.orient-turned.result = search rules in
    rw c.in-Orient.is
    (makes (k.fits, m.fits) (
      oriented (plain c.args.ground.now) (plain c.orient-turned.new.self) c.in-Orient.k c.in-Orient.m c.in_ok-k-in-Orient.k c.in_ok-m-in-Orient.m
          c.args.desk.now.turns.now c.orient-turned.new.labels c.args.desk.now.marks.now c.orient-turned.new.marks c.orient-turned.result (Some c.map-in-Orient.result)
          (record { within = k; same = c.orient-turned.auto.labels }) (record { within = m; same = c.orient-turned.auto.marks }) e c.orient-turned.ensures.orients,
      refl,
    ))
