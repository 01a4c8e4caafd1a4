use Rattle.std.proofs.Common.{◌≡◌, None, ◌+◌, ◌*◌, ℕ, List, length, refl, sym, ap, ◌∙◌}
use Rattle.std.proofs.lemmas.Bool.{cond-true}
use Rattle.carry.specs.Webs.{Web}
use Rattle.rules.specs.NetTests.{holds, placed, cell_joins, star_joins}
use Rattle.rules.proofs.Starred.{star_not, star_open}
use Rattle.rules.proofs.Webbed.{outside, partner_out}
use Rattle.ground.specs.Grounds.{plain_sealed}
use Rattle.halves.proofs.Grounds.{said_of}
use Rattle.nets.proofs.star_net.StarNetNet.join.Goals as goal

pub returns-in_err-joined : goal.returns-in_err-joined
returns-in_err-joined c =
    let n = c.args.self.now in
    let rs = (plain_sealed n.ground.now).list in
    let none : cell_joins rs c.args.item c.args.side ≡ None = sym (c.join.ensures ∙ ap (λ (w : Web). w.joins c.args.item c.args.side) c.turn_net.ensures.computed) ∙ c.in_err-joined.was in
    rw c.from_residual.ensures (sym (star_open rs n.v n.w c.args.item c.args.side none))

pub returns-in_err-crossed : goal.returns-in_err-crossed
unfolding cell_joins
returns-in_err-crossed c =
    let n = c.args.self.now in
    let rs = (plain_sealed n.ground.now).list in
    rw c.from_residual-in_err-crossed.ensures
    (sym (star_open rs n.v n.w c.args.item c.args.side (ap placed (partner_out rs c.args.item c.args.side (outside rs (length rs) c.args.item c.args.side refl c.in_err-crossed.ensures)))))

pub returns-then-not-holds : goal.returns-then-not-holds
returns-then-not-holds c =
    let n = c.args.self.now in
    let at = c.in_ok-crossed.ensures in
    let e = said_of (λ (rs : List (List ℕ)) (h : ℕ). c.holds.result ≡ holds rs n.v n.w h) c.in_ok-crossed.crossed n.ground (4 * c.args.item + c.args.side) at.0 at.1 c.holds.ensures in
    sym (star_not (plain_sealed n.ground.now).list n.v n.w c.args.item c.args.side (sym e ∙ c.if-not-holds.true))

pub returns : goal.returns
unfolding star_joins
returns c =
    let n = c.args.self.now in
    let i = c.args.item in
    let s = c.args.side in
    let at = c.in_ok-crossed.ensures in
    let e = said_of (λ (rs : List (List ℕ)) (h : ℕ). c.holds.result ≡ holds rs n.v n.w h) c.in_ok-crossed.crossed n.ground (4 * i + s) at.0 at.1 c.holds.ensures in
    sym c.in_ok-joined.was
    ∙ c.join.ensures
    ∙ ap (λ (w : Web). w.joins i s) c.turn_net.ensures.computed
    ∙ sym (cond-true (holds (plain_sealed n.ground.now).list n.v n.w (4 * i + s)) _ _ (sym e ∙ c.if-not-holds.false))
