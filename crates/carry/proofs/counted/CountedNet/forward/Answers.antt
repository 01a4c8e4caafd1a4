use Rattle.std.proofs.Common.{◌≡◌, map, get_or, set, Some, sym, refl, ap, ◌∙◌, inr, arith, rules}
use lib.Seq.{map-set}
use Rattle.std.proofs.lemmas.List.{drop-set-lt}
use Rattle.carry.proofs.Lists.{read}
use Rattle.carry.proofs.counted.CountedNet.forward.Goals as goal

pub returns : goal.returns
returns g c =
    let s = c.args.self.now.sound in
    let f = g.N.Label.Label.meaning in
    let p = c.in-Some.p in
    let w = g.N.Net.web c.args.self.now.net.now in
    let e : w.joins c.args.item c.args.side ≡ Some p = sym c.join.ensures ∙ c.in-Some.is in
    let xs = c.args.labels.now in
    let here : get_or (map f xs) c.args.item 0 ≡ f c.index-labels-item.result = read f xs c.args.item c.index-labels-item.result (omega arith) c.index-labels-item.is in
    let st = c.step-step.ensures in
    let made = c.combine.ensures in
    record {
      tried = inr (p, e, (search rules), refl, ap (set c.args.marks.now p.item) c.met_by.ensures, map-set f xs p.item c.combine.result ∙ ap (set (map f xs) p.item) (cc));
      rest = drop-set-lt _ xs p.item c.combine.result (omega (arith, (s.within _ _ p e).0));
    }
