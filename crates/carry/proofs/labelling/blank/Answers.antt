use Rattle.std.proofs.Common.{rules, ◌≡◌, ◌<◌, ◌++◌, length, get_or, drop, ap, ◌∙◌, arith, length-append, length-take}
use Rattle.std.proofs.lemmas.List.{get_or-map, get_or_append_left}
use Rattle.carry.proofs.Lists.{filled}
use Rattle.carry.proofs.labelling.blank.Goals as goal

pub returns-clause-neutral : goal.returns-clause-neutral
returns-clause-neutral g c i less =
    let f = g.L.Label.meaning in
    let v = c.neutral-neutral.result in
    let ys = c.fill_with.new.self in
    let rest = drop c.args.count c.args.labels.now in
    let short : i < length ys = omega (arith, c.fill_with.ensures.len, length-take c.args.count c.args.labels.now) in
    let same : get_or ys i v ≡ v = filled _ _ v (λ x q k. search rules) ys c.fill_with.ensures.ran.0 c.fill_with.ensures.ran.1 i v short in
    get_or-map f (ys ++ rest) i v 0 (omega (arith, length-append ys rest)) ∙ ap f (get_or_append_left ys rest v i short ∙ same) ∙ c.neutral-neutral.ensures
