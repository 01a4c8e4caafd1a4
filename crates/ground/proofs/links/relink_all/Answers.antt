use Rattle.std.proofs.Common.{◌≡◌, ℕ, None, length, sym, ap, ◌∙◌, add-one, get_or}
use Rattle.std.proofs.lemmas.List.{length_push}
use Rattle.std.proofs.lemmas.Slice.Zip.{zip_turn}
use Rattle.ground.specs.Records.{relinked, relinked_first}
use Rattle.ground.proofs.links.relink_all.Goals as goal

pub loop-half-preserved : goal.loop-half-preserved
loop-half-preserved c =
    let cs = c.args.cells.now in
    let ws = c.args.whom in
    let ts = c.args.to in
    let k = length c.loop-half.yielded in
    let t = zip_turn ws ts c.loop-half.yielded c.into_iter-half-iterator.result c.loop-half.half-iterator c.next.new.self c.next.result (cc) (cc) c.loop-half.yielded_by (c.in-Some.half, c.in-Some.back) c.in-Some.is c.next.ensures.steps in
    let is : relinked c.loop-half.cells c.in-Some.half.now c.in-Some.back.now ≡ relinked (relinked_first k cs ws ts) (get_or ws k None) (get_or ts k None) = cc (c.loop-half.invariant, t.2 None, t.3 None) in
    c.relink.ensures ∙ is ∙ sym (ap (λ (i : ℕ). relinked_first i cs ws ts) (length_push c.loop-half.yielded (c.in-Some.half, c.in-Some.back) ∙ add-one k))
