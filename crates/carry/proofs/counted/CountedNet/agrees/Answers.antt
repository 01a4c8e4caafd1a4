use Rattle.std.proofs.Common.{rules, map}
use Rattle.carry.specs.Agreement.{AgreesAt}
use Rattle.carry.proofs.Ranges.{all_below}
use Rattle.carry.proofs.counted.CountedNet.agrees.Goals as goal

pub returns : goal.returns
returns g c =
    let n = c.args.self.now in
    let w = g.N.Net.web n.net.now in
    let Good = AgreesAt w g.N.Label.Label.kind (map g.N.Label.Label.meaning c.args.labels.now) in
    let e = n.items in
    let below = all_below _ _ c.all.result w.items Good c.all.ensures.ran (cc) (λ x q k. search rules) (λ x q k. search rules) in
    ((λ yes i s p j. below.0 yes i (n.sound.inside i s p j).0 s p j), (λ each. below.1 (λ i _. each i)))
