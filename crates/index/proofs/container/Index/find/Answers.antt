use Rattle.std.proofs.Common.{Some, take, sym, ap, ◌∙◌, subst, arith, length-take}
use Rattle.std.proofs.lemmas.List.{get_or-take}
use Rattle.index.specs.declared.entry.Entry.{Entry}
use Rattle.index.specs.Search.{Sought}
use Rattle.index.proofs.Places.{LooksUp, looked_up}
use Rattle.index.proofs.container.Index.find.Goals as goal
use Rattle.index.proofs.container.Index.find.Goals.{After-ok}

looked : (g : _) (c : After-ok g) → LooksUp g.K.Key.order c.args.key (take c.args.self.now.taken c.args.self.now.places.now) c.ok.result
looked g c =
    let es = take c.args.self.now.taken c.args.self.now.places.now in
    let s : Sought g.K.Key.order c.args.key es c.search.result = subst (λ (k : _). Sought g.K.Key.order k es c.search.result) (cc) c.search.ensures in
    subst (LooksUp g.K.Key.order c.args.key es) (sym c.ok.ensures.value) (looked_up g.met.K.Key.total c.args.key es c.args.self.now.rising c.search.result s)

pub returns-in_err-at : goal.returns-in_err-at
returns-in_err-at g c =
    c.from_residual.ensures
    ∙ sym (subst (LooksUp g.K.Key.order c.args.key (take c.args.self.now.taken c.args.self.now.places.now)) c.in_err-at.was (looked g (goal.at.returns-in_err-at g c).After-ok))

pub returns : goal.returns
returns g c =
    let ps = c.args.self.now.places.now in
    let s = subst (LooksUp g.K.Key.order c.args.key (take c.args.self.now.taken ps)) c.in_ok-at.was (looked g (goal.at.returns g c).After-ok) in
    let d = c.index-self-at.result in
    ap (λ (e : Entry _). Some e.half_face) (sym (get_or-take c.args.self.now.taken ps c.in_ok-at.at d (omega (arith, s.0, length-take c.args.self.now.taken ps))))
    ∙ sym (s.1 d)
