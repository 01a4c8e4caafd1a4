use Rattle.std.proofs.Common.{sym, inl, inr, ⊎_elim}
use Rattle.rules.proofs.Webbed.{partner_out, outside}
use Rattle.ground.proofs.Viewed.{view_stored, many_of}
use Rattle.ground.specs.Nets.{joined_rows}
use Rattle.ground.proofs.joined.Joined.partner.Goals as goal

pub returns-then-item-self : goal.returns-then-item-self
returns-then-item-self c =
    let t = c.args.self.now in
    sym (partner_out (joined_rows t) c.args.item c.args.side
    (outside (joined_rows t) t.count c.args.item c.args.side (many_of t)
    (⊎_elim (λ a. inl a) (λ b. inr b.1) c.then-item-self.either)))

pub returns : goal.returns
returns c = view_stored c.args.self.now c.args.item c.args.side _ c.if-item-self.false c.if-side-ge4.false c.opposite.ensures
