use Rattle.std.proofs.Common.{◌/◌, ◌%◌, get_or, arith}
use Rattle.ground.specs.Grounds.{plain_sealed}
use Rattle.skin.proofs.Paired.{mated_low, mate_told, turn_so, side_low, item_of, leads_so}
use Rattle.skin.proofs.build.side.Goals as goal

pub bounds-items-there : goal.bounds-items-there
bounds-items-there c =
    let half = (mated_low c.in-Ok.ensures.tells.1).0.0 in
    let few = c.requires.skin.few in
    let long = c.requires.items.long in
    omega arith

pub overflow_mul-result : goal.overflow_mul-result
overflow_mul-result c =
    let at = mated_low c.in-Ok.ensures.tells.1 in
    let low = side_low c.requires.skin _ _ (item_of c.requires.skin c.requires.items c.in-Ok.there.half_face at.0).0 at.1 in
    omega arith

pub overflow_add-result : goal.overflow_add-result
overflow_add-result c =
    let at = mated_low c.in-Ok.ensures.tells.1 in
    let low = side_low c.requires.skin _ _ (item_of c.requires.skin c.requires.items c.in-Ok.there.half_face at.0).0 at.1 in
    omega arith

pub edge-requires-2 : goal.edge-requires-2
edge-requires-2 c = let at = mated_low c.in-Ok.ensures.tells.1 in record { half = at.0.0; place = at.1 }

pub returns : goal.returns
returns c =
    let rs = (plain_sealed c.args.ground.now).list in
    leads_so c.requires.skin c.args.k _ c.in-Ok.there c.turn_between.result (item_of c.requires.skin c.requires.items c.in-Ok.there.half_face (mated_low c.in-Ok.ensures.tells.1).0) c.in-Ok.ensures.tells.1 c.in-Ok.ensures.back
    (turn_so rs _ _ _ _ c.edge.result c.edge-2.result _ c.edge.ensures c.edge-2.ensures c.turn_between.ensures.same c.turn_between.ensures.opposed)

pub unreachable-requires : goal.unreachable-requires
unreachable-requires c =
    let ks = c.args.triangles.now in let k = c.args.k in let near = c.requires.near in
    mate_told (plain_sealed c.args.ground.now).list (get_or ks (k / 3) 0) (k % 3) _ (c.requires.skin.listing.sound (k / 3) (omega arith)) (omega arith) c.in_default.ensures.tells
