use Rattle.std.proofs.Common.{rules, ◌≡◌, ◌≢◌, ap, sym, ◌∙◌}
use Rattle.std.proofs.lemmas.Iterator.{IsFirst-from_position, YieldsList-from_slice}
use Rattle.carry.specs.Digits.{digits}
use Rattle.carry.specs.Corners.{corner_meaning}
use Rattle.carry.proofs.Places.{place_or, placed}
use Rattle.carry.proofs.corner.Corner.place_of.Goals as goal

pub returns-in-Some : goal.returns-in-Some
returns-in-Some c =
    let n = corner_meaning c.args.self in let k = c.args.k in
    let first = IsFirst-from_position _ _ c.position.result (λ d. d ≡ k) (λ d. d ≢ k) c.position.ensures.ran (YieldsList-from_slice (digits n) (cc)) (λ x q k. search rules) (λ x q k. search rules) in
    ap (place_or 3) (sym c.in-Some.is) ∙ sym (placed n k c.position.result first)

pub returns-in-None : goal.returns-in-None
returns-in-None c =
    let n = corner_meaning c.args.self in let k = c.args.k in
    let first = IsFirst-from_position _ _ c.position.result (λ d. d ≡ k) (λ d. d ≢ k) c.position.ensures.ran (YieldsList-from_slice (digits n) (cc)) (λ x q k. search rules) (λ x q k. search rules) in
    ap (place_or 3) (sym c.in-None.is) ∙ sym (placed n k c.position.result first)
