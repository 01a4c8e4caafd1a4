use Rattle.std.proofs.Common.{ℕ, ◌≤◌, subst, arith}
use Rattle.std.proofs.lemmas.List.{length-take-le}
use Rattle.ground.specs.Grounds.{plain_sealed}
use Rattle.rules.specs.SkinNets.{SkinWeb}
use Rattle.skin.specs.SkinTables.{side_web}
use Rattle.skin.proofs.Paired.{skin_low, skin_few}
use Rattle.skin.proofs.SkinWebs.{all_near, all_back, skin_web}
use Rattle.skin.proofs.build.skin_net.Goals as goal

pub item_numbers-items-requires : goal.item_numbers-items-requires
item_numbers-items-requires c =
    let skin = c.skin_triangles-count.ensures.skin in record { rising = skin.listing.rising; near = skin_low skin; few = skin_few skin }

pub invariant_of-result : goal.invariant_of-result
invariant_of-result c =
    let skin = c.skin_triangles-count.ensures.skin in let all = c.all_sides-sides.ensures in
    let n = c.skin_triangles-count.result in let xs = c.all_sides-sides.result in
    let many = length-take-le n c.skin_triangles-count.new.list c.skin_triangles-count.ensures.fits in
    let most = skin_few skin in
    let few : n ≤ 4096 = omega arith in
    record {
      few = few;
      near = λ k l. let near = all_near xs skin.listing all k (omega arith) in omega arith;
      back = λ k l. all_back xs skin.listing all k (omega arith);
    }

pub returns : goal.returns
returns c =
    let skin = c.skin_triangles-count.ensures.skin in
    let n = c.skin_triangles-count.result in let xs = c.all_sides-sides.result in
    let many = length-take-le n c.skin_triangles-count.new.list c.skin_triangles-count.ensures.fits in
    subst (λ (m : ℕ). SkinWeb (plain_sealed c.args.ground.now).list (side_web m xs)) many (skin_web xs skin.listing c.all_sides-sides.ensures)
