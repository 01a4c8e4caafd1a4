use Rattle.std.proofs.Common.{◌≡◌, ℕ, ◌-◌, ◌/◌, ◌%◌, map, get_or, Some, None, Option, sym, ◌∙◌, subst, arith}
use lib.ListN.{length-map}
use Rattle.carry.specs.Walks.{Tried, Advanced}
use Rattle.carry.proofs.Moves.{advanced, try_turn, go_back, end_piece}
use Rattle.carry.proofs.counted.CountedNet.advance.Goals as goal

pub returns-then-side-side_count-clause-advanced : goal.returns-then-side-side_count-clause-advanced
returns-then-side-side_count-clause-advanced g c =
    let n = c.args.self.now in
    let f = g.N.Label.Label.meaning in
    let ms = c.args.marks.now in
    let xs = c.args.labels.now in
    let e = c.side_count.ensures in
    let tried =
    subst (λ (s : ℕ). Tried (g.N.Net.web n.net.now) g.N.Label.Label.kind c.args.item s (advanced ms c.args.item) (map f xs) c.forward.new.marks (map f c.forward.new.labels) c.forward.result) c.sides_done-side.ensures c.forward.ensures.tried in
    try_turn n.sound ms (map f xs) _ _ c.args.item c.forward.result c.requires.walking (omega (arith, length-map xs f, n.items)) (omega arith) tried

pub returns-in_err-back-clause-advanced : goal.returns-in_err-back-clause-advanced
returns-in_err-back-clause-advanced g c =
    let n = c.args.self.now in
    let w = g.N.Net.web n.net.now in
    let k = g.N.Label.Label.kind in
    let ms = c.args.marks.now in
    let ls = map g.N.Label.Label.meaning c.args.labels.now in
    let x = c.args.item in
    let e = c.side_count.ensures in
    let full : get_or ms x 0 / 8 ≡ w.sides = omega (arith, c.requires.walking.stands.1) in
    let root : get_or ms x 0 % 8 ≡ 5 = rw c.in_err-back.was at c.way_in.ensures in
    let none : None ≡ c.from_residual.result = cc in
    subst (λ (r : Option ℕ). Advanced w k ms ls (advanced ms x) ls r) none (end_piece n.sound ms ls x c.requires.walking full root)

pub returns-clause-advanced : goal.returns-clause-advanced
returns-clause-advanced g c =
    let n = c.args.self.now in
    let w = g.N.Net.web n.net.now in
    let ms = c.args.marks.now in
    let ls = map g.N.Label.Label.meaning c.args.labels.now in
    let x = c.args.item in
    let e = c.side_count.ensures in
    let full : get_or ms x 0 / 8 ≡ w.sides = omega (arith, c.requires.walking.stands.1) in
    let came = c.requires.walking.marked.came x c.requires.walking.inside c.requires.walking.stands.0 in
    let way = rw c.in_ok-back.was at c.way_in.ensures in
    let back : c.in_ok-back.back ≡ get_or ms x 0 % 8 - 1 = omega arith in
    let joined = subst (λ (s : ℕ). w.joins x s ≡ Some c.in_ok-join.field-0) back (sym c.join.ensures ∙ c.in_ok-join.was) in
    go_back n.sound ms ls x c.in_ok-join.field-0 c.requires.walking full (omega (arith, came.1)) joined
