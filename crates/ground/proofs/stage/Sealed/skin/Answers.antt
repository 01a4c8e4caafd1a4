use Rattle.std.proofs.Common.{ℕ, ◌*◌, List, length, subst}
use Rattle.rules.specs.Joins.{OnSkin}
use Rattle.rules.specs.Questions.{SkinCause, TellsSkin}
use Rattle.rules.specs.Tests.{picks}
use Rattle.rules.proofs.Causes.{skin_first_short, no_skin_cause}
use Rattle.ground.specs.Listed.{open_at}
use Rattle.ground.specs.Nets.{joined_rows}
use Rattle.ground.proofs.Asked.{skin_listed}
use Rattle.ground.proofs.Telling.{told}
use Rattle.ground.proofs.Viewed.{seen}
use Rattle.ground.proofs.stage.Sealed.skin.Goals as goal

pub returns : goal.returns
returns c =
    let t = c.joined.result in
    let rs = joined_rows t in
    let n = length c.args.out.now in
    let ks = picks (open_at t.records.now) (4 * t.count) in
    let a = skin_listed t.records.now t.count t.standing.room t.standing.law in
    subst (λ (z : List (List ℕ)). TellsSkin z c.args.out.now c.list_skin.result c.list_skin.new.out)
    (seen t c.args.self.now.cells c.joined.ensures.records c.joined.ensures.many)
    (told (SkinCause rs n) (OnSkin rs) (open_at t.records.now) (4 * t.count) a c.args.out.now c.list_skin.new.out c.list_skin.result c.list_skin.auto.out
    (skin_first_short rs n ks a) (no_skin_cause rs n ks a) c.list_skin.ensures)
