use Rattle.std.proofs.Common.{◌≡◌, Ok, Err, refl, arith}
use Rattle.std.proofs.lemmas.Result.{err_from_is_err_and}
use Rattle.refusal.specs.declared.Refusal.TheVariants.{ListTooShort}
use Rattle.carry.proofs.Verdicts.{enough_labels}
use Rattle.rules.specs.Joins.{NoThree}
use Rattle.rules.specs.Nets.{AllDiffer}
use Rattle.rules.proofs.TurnNets.{all_differ}
use Rattle.rules.proofs.Orienting.{oriented, unoriented, refused_exactly, opposed_after, orients_once}
use Rattle.ground.specs.declared.stage.Open.{Open}
use Rattle.ground.specs.Grounds.{plain, plain_of}
use Rattle.ground.proofs.Grounds.{many, same_plain}
use Rattle.ground.proofs.Joining.{joined_one}
use Rattle.ground.proofs.stage.Open.orient.Goals as goal

no_three : (g : Open) → NoThree (plain g).list
no_three g = joined_one g.cells.records.now g.cells.count g.cells.standing.room g.cells.standing.law

differing : (g : Open) → AllDiffer (plain g).list
differing g = all_differ (plain g).list g.cells.standing.law.differ

pub turn_labelled-turned-requires : goal.turn_labelled-turned-requires
turn_labelled-turned-requires c =
    let g = c.args.self.now in
    let z = many g.cells in
    let l = enough_labels (c.in_ok-_pieces.ensures.0 ListTooShort) in
    let k = c.carry_turns.auto.labels in
    omega arith

pub returns : goal.returns
returns c =
    let g = c.args.self.now in
    let s = c.turn_labelled-turned.new.self in
    let n = c.turn_labelled-turned.result in
    let xs = c.args.labels.now in
    let ms = c.args.marks.now in
    let q = plain_of s.records.now s.count c.one_more-self.result in
    let o = oriented (plain g) (no_three g) xs ms c.carry_turns.new.labels c.carry_turns.new.marks q c.in_ok-_pieces._pieces n c.in_ok-_pieces.ensures
    (same_plain _ _ _ _ _ _ c.turn_labelled-turned.ensures.list c.turn_labelled-turned.ensures.places c.one_more-self.ensures)
    c.turn_labelled-turned.ensures.many in
    record {
      orients = o;
      kept = tt;
      exactly = refused_exactly (plain g) xs ms (differing g) (no_three g) (Ok n) q _ _ o;
      opposed = opposed_after (plain g) xs ms (differing g) (no_three g) (Ok n) q _ _ o;
      once = orients_once (plain g) xs ms (Ok n) q _ _ o;
    }

pub returns-in_err-_pieces : goal.returns-in_err-_pieces
returns-in_err-_pieces c =
    let g = c.args.self.now in
    let e = c.in_err-_pieces.field-0.0 in
    let xs = c.args.labels.now in
    let ms = c.args.marks.now in
    let p = err_from_is_err_and c.from_residual.result c.from_residual.ensures.1 in
    let is : c.from_residual.result ≡ Err e = cc (p.1, p.2) in
    let o = unoriented (plain g) (no_three g) xs ms c.carry_turns.new.labels c.carry_turns.new.marks e c.in_err-_pieces.ensures in
    rw is (record {
      orients = o;
      kept = refl;
      exactly = refused_exactly (plain g) xs ms (differing g) (no_three g) (Err e) (plain g) _ _ o;
      opposed = tt;
      once = orients_once (plain g) xs ms (Err e) (plain g) _ _ o;
    })
