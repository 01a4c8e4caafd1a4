use Rattle.std.proofs.Common.{rules, IsTrue, refl}
use Rattle.carry.proofs.Places.{among, is_different}
use Rattle.carry.proofs.Ranges.{all_below}
use Rattle.carry.proofs.corner.four_different.Goals as goal

pub returns : goal.returns
returns c =
    let t = c.args in
    is_different t.a t.b t.c t.d c.all.result (all_below _ _ c.all.result 4 (λ k. IsTrue (among t.a t.b t.c t.d k)) c.all.ensures.ran refl (λ x q k. search rules) (λ x q k. search rules))
