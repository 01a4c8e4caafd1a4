use Rattle.std.proofs.Common.{◌+◌, ◌*◌, map, get_or, Option, sym, ap, ◌∙◌, arith}
use Rattle.std.proofs.lemmas.List.{get_or-map}
use Rattle.carry.specs.declared.net.Place.{Place}
use Rattle.checks.specs.Tables.{step_at}
use Rattle.checks.proofs.TableJoins.{joined_listed}
use Rattle.checks.proofs.table.TableNet.step.Goals as goal

pub returns-in-Some : goal.returns-in-Some
returns-in-Some g c =
    let t = c.args.self.now in let i = c.args.item in let s = c.args.side in
    let f = g.L.Label.meaning in
    let l = joined_listed t.items t.names t.few c.args.item c.args.side (sym c.in-Some.ensures) in let e = t.long in
    sym (get_or-map f t.steps (2 * i + s) c.index-self-item.result 0 (omega arith))
    ∙ ap (λ (o : Option Place). step_at o g.L.Label.kind.neutral (get_or (map f t.steps) (2 * i + s) 0)) c.in-Some.ensures
