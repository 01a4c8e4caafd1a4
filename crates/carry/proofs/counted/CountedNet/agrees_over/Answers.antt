use Rattle.std.proofs.Common.{◌≡◌, map, get_or, Some, sym, ◌∙◌, subst, arith}
use Rattle.carry.specs.declared.net.Place.{Place}
use Rattle.carry.proofs.Lists.{read}
use Rattle.carry.proofs.counted.CountedNet.agrees_over.Goals as goal

pub returns : goal.returns
returns g c =
    let s = c.args.self.now.sound in
    let f = g.N.Label.Label.meaning in
    let k = g.N.Label.Label.kind in
    let w = g.N.Net.web c.args.self.now.net.now in
    let xs = c.args.labels.now in
    let p = c.in-Some.p in
    let e : w.joins c.args.item c.args.side ≡ Some p = sym c.join.ensures ∙ c.in-Some.is in
    let win = s.within _ _ p e in
    let here : get_or (map f xs) c.args.item 0 ≡ f c.index-labels-item.result = read f xs _ _ (omega arith) c.index-labels-item.is in
    let there : get_or (map f xs) p.item 0 ≡ f c.index-labels-p.result = read f xs _ _ (omega (arith, win.0)) c.index-labels-p.is in
    let st = c.step.ensures in
    let made = c.combine-led.ensures in
    let led : f c.combine-led.result ≡ k.combined (get_or (map f xs) c.args.item 0) (w.steps c.args.item c.args.side) = cc in (
      (λ yes q j.
          let pq : p ≡ q = cc (sym e ∙ j) in
          subst (λ (z : Place). get_or (map f xs) z.item 0 ≡ k.combined (get_or (map f xs) c.args.item 0) (w.steps c.args.item c.args.side)) pq (there ∙ sym (c.same.ensures.only yes) ∙ led)),
      (λ a. c.same.ensures.all (led ∙ sym (a p e) ∙ there)),
    )
