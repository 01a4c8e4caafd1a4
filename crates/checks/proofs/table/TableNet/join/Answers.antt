use Rattle.std.proofs.Common.{◌≡◌, true, false, cond, Some, None, Option, sym, ap, ◌∙◌}
use Rattle.std.proofs.lemmas.Bool.{cond-true, cond-false}
use Rattle.carry.specs.declared.net.Place.{Place}
use Rattle.checks.specs.Tables.{name_at, is_place, answered, joined}
use Rattle.checks.proofs.table.TableNet.join.Goals as goal

pub returns-in_err-p : goal.returns-in_err-p
unfolding joined
returns-in_err-p g c =
    let t = c.args.self.now in
    let none : c.from_residual.result ≡ None = cc in
    none ∙ sym (ap (answered t.items t.names c.args.item c.args.side) (sym c.named.ensures ∙ c.in_err-p.was))

pub returns-in_err-back : goal.returns-in_err-back
unfolding joined
returns-in_err-back g c =
    let t = c.args.self.now in let i = c.args.item in let s = c.args.side in let p = c.in_ok-p.p in
    let none : c.from_residual-in_err-back.result ≡ None = cc in
    none ∙ sym (ap (answered t.items t.names i s) (sym c.named.ensures ∙ c.in_ok-p.was) ∙ ap (λ (o : Option Place). cond (is_place o i s) (Some p) None) (sym c.named-2.ensures ∙ c.in_err-back.was))

pub returns-then-eq : goal.returns-then-eq
unfolding joined
returns-then-eq g c =
    let t = c.args.self.now in let i = c.args.item in let s = c.args.side in let p = c.in_ok-p.p in
    let yes-back : is_place (name_at t.items t.names p.item p.side) i s ≡ true = ap (λ (o : Option Place). is_place o i s) (sym c.named-2.ensures ∙ c.in_ok-back.was) ∙ sym c.eq.ensures ∙ c.if-eq.true in
    sym (ap (answered t.items t.names i s) (sym c.named.ensures ∙ c.in_ok-p.was) ∙ cond-true _ _ _ yes-back)

pub returns-else-eq : goal.returns-else-eq
unfolding joined
returns-else-eq g c =
    let t = c.args.self.now in let i = c.args.item in let s = c.args.side in let p = c.in_ok-p.p in
    let not_back : is_place (name_at t.items t.names p.item p.side) i s ≡ false = ap (λ (o : Option Place). is_place o i s) (sym c.named-2.ensures ∙ c.in_ok-back.was) ∙ sym c.eq.ensures ∙ c.if-eq.false in
    sym (ap (answered t.items t.names i s) (sym c.named.ensures ∙ c.in_ok-p.was) ∙ cond-false _ _ _ not_back)
