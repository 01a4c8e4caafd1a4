use Rattle.std.proofs.Common.{rules, map}
use Rattle.carry.specs.Agreement.{AgreesOver}
use Rattle.carry.proofs.Ranges.{all_below}
use Rattle.carry.proofs.counted.CountedNet.agrees_at.Goals as goal

pub returns : goal.returns
returns g c =
    let n = c.args.self.now in
    let w = g.N.Net.web n.net.now in
    let Good = AgreesOver w g.N.Label.Label.kind (map g.N.Label.Label.meaning c.args.labels.now) c.args.item in
    let e = c.side_count.ensures in
    let below = all_below _ _ c.all.result w.sides Good c.all.ensures.ran (cc) (λ x q k. search rules) (λ x q k. search rules) in
    ((λ yes s p j. below.0 yes s (n.sound.inside _ s p j).1 p j), (λ each. below.1 (λ s _. each s)))
