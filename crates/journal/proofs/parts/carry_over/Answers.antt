use Rattle.std.proofs.Common.{◌≡◌, Some, rules}
use Rattle.journal.specs.declared.calls.Answer.TheVariants.{Number}
use Rattle.journal.specs.Answers.{replied}
use Rattle.journal.specs.Steps.Tried.{makes}
use Rattle.journal.proofs.Lending.{carries}
use Rattle.journal.proofs.parts.carry_over.Goals as goal

pub returns : goal.returns
returns g c =
    let k = c.in_ok-k.ensures in
    let m = c.in_ok-m.ensures in
    let e : Some c.map.result ≡ replied Number c.carry.result = search rules in
    makes (k.fits, m.fits)
    (carries c.args.k c.args.m c.in_ok-k.k c.in_ok-m.m c.args.labels.now c.carry.new.labels c.args.marks.now c.carry.new.marks
    (record { within = k; same = c.carry.auto.labels }) (record { within = m; same = c.carry.auto.marks })
    (g.N.Net.web c.args.net.now) g.N.Label.Label.kind g.N.Label.Label.meaning c.carry.result (Some c.map.result) e c.carry.ensures)
