-- By meaning, corner labels are a group, and equal labels are those of one meaning.
use Rattle.std.proofs.Common.{◌≡◌, true, ◌&&◌, eqb, ◌↔◌, refl}
use Rattle.std.proofs.lemmas.Bool.{and_parts, and_from, eqb-true, eq-eqb}
use Rattle.carry.specs.declared.corner.Corner.{Corner}
use Rattle.carry.specs.Kinds.{Group}
use Rattle.carry.specs.Digits.{different, composed, undone, digit, place, corner_kind}
use Rattle.carry.specs.Corners.{corner_meaning}
use Rattle.carry.specs.FourDigits.{One, one_at, two_at, small, composed_assoc, numbers, same_digits}

facts : (x : Corner) → One (corner_meaning x)
facts x = one_at x.a x.b x.c x.d x.lawful

plain : (x : Corner) × (corner_meaning x ≡ 123)
unfolding different
plain = (record { a = 0; b = 1; c = 2; d = 3; lawful = refl }, refl)

product : (x y : Corner) → (z : Corner) × (corner_meaning z ≡ composed (corner_meaning x) (corner_meaning y))
unfolding composed
product x y =
    let p = corner_meaning x in let m = corner_meaning y in
    (record { a = digit p (digit m 0); b = digit p (digit m 1); c = digit p (digit m 2); d = digit p (digit m 3); lawful = two_at x.a x.b x.c x.d y.a y.b y.c y.d x.lawful y.lawful }, refl)

reverse : (x : Corner) → (z : Corner) × (corner_meaning z ≡ undone (corner_meaning x))
unfolding undone
reverse x = let n = corner_meaning x in (record { a = place n 0; b = place n 1; c = place n 2; d = place n 3; lawful = (facts x).places }, refl)

pub corner_group : Group corner_meaning corner_kind
corner_group = record {
  associative = λ x y z. composed_assoc (corner_meaning x) (corner_meaning y) (corner_meaning z) (small x.a x.b x.c x.d x.lawful) (small y.a y.b y.c y.d y.lawful) (facts z).digits;
  neutral_before = λ x. (facts x).before;
  neutral_after = λ x. (facts x).after;
  inverse_before = λ x. (facts x).back;
  inverse_after = λ x. (facts x).forth;
  neutral_meant = plain;
  combined_meant = product;
  inverse_meant = reverse;
}

pub corner_equal : (x y : Corner) → ((eqb x.a y.a && (eqb x.b y.b && (eqb x.c y.c && eqb x.d y.d))) ≡ true) ↔ (corner_meaning x ≡ corner_meaning y)
corner_equal x y = (
  (λ e.
      let r = and_parts _ _ e in let s = and_parts _ _ r.1 in let t = and_parts _ _ s.1 in
      numbers _ _ _ _ _ _ _ _ (eqb-true _ _ r.0) (eqb-true _ _ s.0) (eqb-true _ _ t.0) (eqb-true _ _ t.1)),
  (λ e.
      let d = same_digits x.a x.b x.c x.d y.a y.b y.c y.d x.lawful y.lawful e in
      and_from _ _ (eq-eqb _ _ d.0) (and_from _ _ (eq-eqb _ _ d.1) (and_from _ _ (eq-eqb _ _ d.2) (eq-eqb _ _ d.3)))),
)
