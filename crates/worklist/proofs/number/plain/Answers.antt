use Rattle.std.proofs.Common.{◌<◌, arith}
use Rattle.worklist.proofs.Numbers.{none_long, none_letter, the_value, some_number}
use Rattle.worklist.proofs.number.plain.Goals as goal

pub returns-then-s-gt5 : goal.returns-then-s-gt5
returns-then-s-gt5 c n small e = none_long c.args.s.now n small e c.if-s-gt5.true

pub returns-in-Some : goal.returns-in-Some
returns-in-Some c =
    let v = c.in-Some.ensures in
    let small : c.in-Some.v < 65536 = omega (arith, c.if-v-le-LARGEST.true) in
    (some_number c.args.s.now c.in-Some.v v.0 v.1 c.requires.some c.requires.led small, small)

pub returns-in_default : goal.returns-in_default
returns-in_default c n small e =
    omega (arith, the_value c.args.s.now n small e, c.in-Some.ensures.1, c.if-v-le-LARGEST.false)

pub returns-in_default-2 : goal.returns-in_default-2
returns-in_default-2 c n small e = none_letter c.args.s.now n small e c.in_default.ensures
