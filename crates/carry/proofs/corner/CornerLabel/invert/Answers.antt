use Rattle.std.proofs.Common.{sym}
use Rattle.carry.specs.Digits.{undone}
use Rattle.carry.specs.FourDigits.{one_at, numbers, moved}
use Rattle.carry.proofs.corner.CornerLabel.invert.Goals as goal

pub invariant_of-result : goal.invariant_of-result
invariant_of-result c =
    let s = c.args.self in record {
      lawful = moved _ _ _ _ _ _ _ _ (sym c.place_of.ensures) (sym c.place_of-2.ensures) (sym c.place_of-3.ensures) (sym c.place_of-4.ensures)
          (one_at s.a s.b s.c s.d s.lawful).places;
    }

pub returns : goal.returns
unfolding undone
returns c =
    numbers _ _ _ _ _ _ _ _ c.place_of.ensures c.place_of-2.ensures c.place_of-3.ensures c.place_of-4.ensures
