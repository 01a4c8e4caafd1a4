use Rattle.std.proofs.Common.{◌≡◌, ℕ, suc, ◌+◌, ◌<◌, List, [], length, get_or, take, set, sym, refl, ap, ◌∙◌, subst, add-one, arith, rules}
use Rattle.std.proofs.lemmas.List.{length-take-le, get_or-take}
use Rattle.carry.specs.declared.turn.Turn.TheVariants.{Straight, Turned}
use Rattle.carry.specs.Counting.{Counts}
use Rattle.carry.specs.Counting.Counts.{none, one, skip}
use Rattle.rules.specs.Rows.{turned_row}
use Rattle.rules.specs.Nets.{turned_by}
use Rattle.rules.proofs.Labelled.{turned_one, turned_skip, turned_take}
use Rattle.ground.specs.declared.cells.Cells.{Cells}
use Rattle.ground.specs.Grounds.{rows_of}
use Rattle.ground.proofs.Grounds.{many}
use Rattle.ground.proofs.cells.Cells.turn_labelled.Goals as goal
use Rattle.ground.proofs.cells.Cells.turn_labelled.Goals.{then-eq, else-eq}

pub loop-t-init : goal.loop-t-init
loop-t-init c = record { same = refl; places = refl; list = refl; counts = none; few = omega arith }

pub loop-t-preserved : goal.loop-t-preserved
loop-t-preserved c =
    let n = c.args.self.now.count in
    let t = c.loop-t.t in
    let xs = c.args.labels.now in
    let rs = rows_of c.args.self.now in
    let was = c.loop-t.invariant in
    let l : t < n = omega (arith, c.loop-t-test.true, length-take-le n xs c.requires) in
    let lr : t < length rs = omega (arith, many c.args.self.now) in
    let long = c.requires in
    let lx : t < length xs = omega arith in
    let P : ℕ → Type 0 = λ k. get_or xs k Straight ≡ Turned in
    let up : (k : ℕ) → Counts P (suc t) k → Counts P (t + 1) k = λ k x. subst (λ (i : ℕ). Counts P i k) (sym (add-one t)) x in
    let at = get_or-take n xs t Straight l in
    elim c.if-eq.branch [
      | then-eq w ↦
          (let b : get_or (take n xs) t Straight ≡ Turned = search (rules, w.if-eq.ensures) in
          record {
            same = ap (λ (z : Cells). z.count) w.self-is ∙ w.turn.ensures.same ∙ was.same;
            places = ap (λ (z : Cells). length z.records.now) w.self-is ∙ w.turn.ensures.places ∙ was.places;
            list = ap rows_of w.self-is ∙ w.turn.ensures.list
                ∙ ap (λ (z : List (List ℕ)). set z t (turned_row (get_or z t []))) was.list
                ∙ turned_one xs rs t lr lx (sym at ∙ b) ∙ ap (λ (k : ℕ). turned_by (take k xs) rs) (sym (add-one t));
            counts = subst (λ (k : ℕ). Counts P (t + 1) k) (sym (w.turned-is ∙ add-one c.loop-t.turned)) (up (suc c.loop-t.turned) (one was.counts (sym at ∙ b)));
            few = omega (arith, w.turned-is, was.few);
          })
      | else-eq w ↦
          (let b : get_or (take n xs) t Straight ≡ Turned → ⊥ = search (rules, w.if-eq.ensures) in
          let not = λ (e : get_or xs t Straight ≡ Turned). b (at ∙ e) in
          record {
            same = ap (λ (z : Cells). z.count) w.self-is ∙ was.same;
            places = ap (λ (z : Cells). length z.records.now) w.self-is ∙ was.places;
            list = ap rows_of w.self-is ∙ was.list ∙ turned_skip xs rs t lr lx not ∙ ap (λ (k : ℕ). turned_by (take k xs) rs) (sym (add-one t));
            counts = subst (λ (k : ℕ). Counts P (t + 1) k) (sym w.turned-is) (up c.loop-t.turned (skip was.counts not));
            few = omega (arith, w.turned-is, was.few);
          })
    ]

pub returns : goal.returns
returns c =
    let n = c.args.self.now.count in
    let rs = rows_of c.args.self.now in
    let xs = c.args.labels.now in
    let z = many c.args.self.now in
    let e : c.loop-t.t ≡ n = omega (arith, c.loop-t-test.false, c.loop-t.auto.t-end, length-take-le n xs c.requires) in
    record {
      list = c.loop-t.invariant.list ∙ turned_take xs rs c.loop-t.t (omega arith);
      places = c.loop-t.invariant.places;
      many = subst (λ (k : ℕ). Counts (λ t. get_or xs t Straight ≡ Turned) k c.loop-t.turned) (e ∙ sym z) c.loop-t.invariant.counts;
    }
