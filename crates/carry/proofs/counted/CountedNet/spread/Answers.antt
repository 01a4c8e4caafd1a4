use Rattle.std.proofs.Common.{◌≡◌, ℕ, ◌<◌, map, get_or, drop, refl, ap, ◌∙◌, subst, arith}
use Rattle.carry.proofs.Sweep.{Swept, swept_none, swept_piece, swept_skip, swept_all, swept_as}
use Rattle.carry.proofs.counted.CountedNet.spread.Goals as goal
use Rattle.carry.proofs.counted.CountedNet.spread.Goals.{then-marks-root-eq0, else-marks-root-eq0}

pub loop-root-init : goal.loop-root-init
loop-root-init g c =
    let s = c.args.self.now.sound in
    (swept_none s c.args.marks.now _ (omega arith) (λ i lt. c.requires.unmet i (omega arith)), refl, refl)

pub loop-root-preserved : goal.loop-root-preserved
loop-root-preserved g c =
    let s = c.args.self.now.sound in
    let f = g.N.Label.Label.meaning in
    let T = g.row.N-Label.Denot in
    let n = c.args.self.now.count in
    let root = c.loop-root.root in
    let ms = c.loop-root.marks in
    let xs = c.loop-root.labels in
    let lt : root < (g.N.Net.web c.args.self.now.net.now).items = omega arith in
    let sw = c.loop-root.invariant.0 in
    elim c.if-marks-root-eq0.branch [
      | then-marks-root-eq0 w ↦ (
        swept_as s _ _ _ _ _ _ _ w.marks-is (ap (map f) w.labels-is) w.pieces-is (swept_piece s root c.loop-root.pieces ms (map f xs) w.piece.new.marks (map f w.piece.new.labels) sw lt w.if-marks-root-eq0.true w.piece.ensures.rests w.piece.ensures.grown),
        ap (drop n) w.marks-is ∙ w.piece.ensures.past ∙ c.loop-root.invariant.1,
        ap (drop n) w.labels-is ∙ w.piece.ensures.rest ∙ c.loop-root.invariant.2,
      )
      | else-marks-root-eq0 w ↦
          (let ne = w.if-marks-root-eq0.false in
          let met : 0 < get_or ms root 0 = omega (arith, ne) in (
            swept_as s _ _ _ _ _ _ _ w.marks-is (ap (map f) w.labels-is) w.pieces-is (swept_skip s root c.loop-root.pieces ms (map f xs) sw lt met),
            ap (drop n) w.marks-is ∙ c.loop-root.invariant.1,
            ap (drop n) w.labels-is ∙ c.loop-root.invariant.2,
          ))
    ]

pub returns : goal.returns
returns g c =
    let s = c.args.self.now.sound in
    let w = g.N.Net.web c.args.self.now.net.now in
    let e : c.loop-root.root ≡ w.items = omega arith in
    let f = g.N.Label.Label.meaning in
    record {
      spread = swept_all s c.loop-root.marks _ _ (subst (λ (n : ℕ). Swept w g.N.Label.Label.kind n c.loop-root.marks (map f c.loop-root.labels) c.loop-root.pieces) e c.loop-root.invariant.0);
      past = c.loop-root.invariant.1;
      rest = c.loop-root.invariant.2;
    }
