use Rattle.std.proofs.Common.{sym, refl, ◌∙◌, subst, inr}
use Rattle.ground.specs.Nets.{joined_rows}
use Rattle.ground.specs.Searches.{Scanned}
use Rattle.ground.proofs.Partnered.{not_standing, crowded_so, met_so, not_crowded}
use Rattle.ground.proofs.joined.Joined.partners.Goals as goal

pub returns-then-any_joined : goal.returns-then-any_joined
returns-then-any_joined c =
    let t = c.args.self.now in
    let found = c.in_ok-found.found in
    let past = subst (Scanned (joined_rows t) c.args.corners) c.in_ok-found.ensures.ok_part c.scan.ensures in
    inr (
      refl,
      not_standing t.records.now t.count c.args.corners found t.standing.room t.standing.law past,
      crowded_so t.records.now t.count c.args.corners found t.standing.room t.standing.law past (sym c.any_joined.ensures ∙ c.if-any_joined.true),
    )

pub returns : goal.returns
returns c =
    let t = c.args.self.now in
    let found = c.in_ok-found.found in
    let past = subst (Scanned (joined_rows t) c.args.corners) c.in_ok-found.ensures.ok_part c.scan.ensures in
    let none = sym c.any_joined.ensures ∙ c.if-any_joined.false in (
      met_so t.records.now t.count c.args.corners found t.standing.room t.standing.law past none,
      not_crowded t.records.now t.count c.args.corners found t.standing.room t.standing.law past none,
      past.four,
    )
