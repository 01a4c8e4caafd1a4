use Rattle.std.proofs.Common.{◌≡◌, ℕ, ◌/◌, ◌%◌, List, [], get_or, ap, ◌∙◌, rules}
use Rattle.std.proofs.lemmas.Bool.{both_ways}
use Rattle.rules.specs.Rows.{vertices}
use Rattle.rules.specs.NetTests.{sent}
use Rattle.rules.proofs.CornerNets.{by_places, different_places}
use Rattle.halves.specs.HalfFaces.{rows_of}
use Rattle.nets.proofs.Crossing.{read_lawful, read_label}
use Rattle.nets.proofs.corner_step.corners_between.Goals as goal

pub unreachable-requires : goal.unreachable-requires
unreachable-requires c =
    let rs = rows_of c.args.here in
    let h = c.args.here.number in let g = c.args.there.number in
    let x = c.corners-x.result in let y = c.corners-y.result in
    let e : y ≡ vertices (get_or rs (g / 4) []) = c.corners-y.ensures ∙ ap (λ (z : List (List ℕ)). vertices (get_or z (g / 4) [])) c.requires.same in
    let s0 : c.sent.result ≡ sent x (h % 4) y (g % 4) 0 = search rules in
    let s1 : c.sent-2.result ≡ sent x (h % 4) y (g % 4) 1 = search rules in
    let s2 : c.sent-3.result ≡ sent x (h % 4) y (g % 4) 2 = search rules in
    let s3 : c.sent-4.result ≡ sent x (h % 4) y (g % 4) 3 = search rules in
    both_ways _ c.in_default.ensures
    (different_places (sent x (h % 4) y (g % 4)) c.sent.result c.sent-2.result c.sent-3.result c.sent-4.result s0 s1 s2 s3
    (read_lawful rs h g x y c.corners-x.ensures e c.args.here.lawful.differ c.requires.joined))

pub returns : goal.returns
returns c =
    let rs = rows_of c.args.here in
    let h = c.args.here.number in let g = c.args.there.number in
    let x = c.corners-x.result in let y = c.corners-y.result in
    let e : y ≡ vertices (get_or rs (g / 4) []) = c.corners-y.ensures ∙ ap (λ (z : List (List ℕ)). vertices (get_or z (g / 4) [])) c.requires.same in
    let s0 : c.sent.result ≡ sent x (h % 4) y (g % 4) 0 = search rules in
    let s1 : c.sent-2.result ≡ sent x (h % 4) y (g % 4) 1 = search rules in
    let s2 : c.sent-3.result ≡ sent x (h % 4) y (g % 4) 2 = search rules in
    let s3 : c.sent-4.result ≡ sent x (h % 4) y (g % 4) 3 = search rules in
    c.in-Some.ensures.1
    ∙ by_places (sent x (h % 4) y (g % 4)) c.sent.result c.sent-2.result c.sent-3.result c.sent-4.result s0 s1 s2 s3
    ∙ read_label rs h g x y c.corners-x.ensures e
