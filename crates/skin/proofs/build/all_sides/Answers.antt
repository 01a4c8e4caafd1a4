use Rattle.std.proofs.Common.{◌≢◌, sym, ◌∙◌, subst, arith, below_more}
use Rattle.std.proofs.lemmas.List.{length-set, get_or-set_same, get_or-set_other}
use Rattle.ground.specs.Grounds.{plain_sealed}
use Rattle.skin.specs.Sides.{blank}
use Rattle.skin.specs.Pairing.{Leads}
use Rattle.skin.proofs.build.all_sides.Goals as goal

pub loop-k-preserved : goal.loop-k-preserved
loop-k-preserved c =
    let rs = (plain_sealed c.args.ground.now).list in let ks = c.args.triangles.now in
    let xs = c.loop-k.sides in let k = c.loop-k.k in let x = c.side.result in
    let long = c.loop-k.invariant.0 in let taken = c.loop-k-test.true in let few = c.requires.few in (
      length-set xs k x ∙ long,
      below_more _ _
          (λ j l. let ne : j ≢ k = omega arith in subst (Leads rs ks j) (sym (get_or-set_other xs k j x blank ne)) (c.loop-k.invariant.1 j l))
          (subst (Leads rs ks k) (sym (get_or-set_same xs k x blank (omega arith))) c.side.ensures),
    )
