use Rattle.std.proofs.Common.{◌≢◌, get_or, ◌∙◌, arith, below_more}
use Rattle.std.proofs.lemmas.List.{length-set, get_or-set_same, get_or-set_other}
use Rattle.skin.proofs.build.item_numbers.Goals as goal

pub returns : goal.returns
returns c = record { long = c.loop-i.invariant.0; item = λ i l. c.loop-i.invariant.1 i (let e = c.loop-i-test.false in omega arith) }

pub loop-i-preserved : goal.loop-i-preserved
loop-i-preserved c =
    let ks = c.args.triangles.now in let items = c.loop-i.items in let i = c.loop-i.i in
    let taken = c.loop-i-test.true in
    let long = c.loop-i.invariant.0 in (
      length-set items (get_or ks i 0) i ∙ long,
      below_more _ _
          (λ j l. let ne : get_or ks j 0 ≢ get_or ks i 0 = λ e. (let less = c.requires.rising j i l taken in omega arith) in get_or-set_other items (get_or ks i 0) (get_or ks j 0) i 0 ne ∙ c.loop-i.invariant.1 j l)
          (let near = c.requires.near i taken in get_or-set_same items (get_or ks i 0) i 0 (omega arith)),
    )
