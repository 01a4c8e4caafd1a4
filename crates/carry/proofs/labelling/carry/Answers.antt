use Rattle.std.proofs.Common.{◌≡◌, ℕ, drop, refl, ◌∙◌, subst, inl, inr, ⊎_elim, arith}
use Rattle.carry.specs.Lists.{Cleared}
use Rattle.carry.specs.Carrying.{untouched, blank}
use Rattle.carry.proofs.Judgement.{agreeing, spread_agrees}
use Rattle.carry.proofs.Verdicts.{too_short, no_cause, none_agrees}
use Rattle.carry.proofs.labelling.carry.Goals as goal

pub returns-then-labels-count : goal.returns-then-labels-count
returns-then-labels-count g c =
    let e = c.count-count.ensures.items in
    (too_short (⊎_elim (λ a. inl (omega arith)) (λ b. inr (omega arith)) c.then-labels-count.either), untouched refl refl)

pub returns-then-agrees : goal.returns-then-agrees
returns-then-agrees g c =
    let s = c.count-count.ensures.sound in
    let gr = g.met.N.Label.Label.group in
    let me = c.count-count.ensures.meant in
    let w = g.N.Net.web c.args.net.now in
    let xs = c.args.labels.now in
    let e = c.count-count.ensures.items in
    let last = c.drop-guard.ensures in
    let agrees = c.if-agrees.ensures.0 refl in (
      no_cause (omega arith) (omega arith) c.spread-pieces.new.labels (omega arith) agrees,
      agreeing s gr me _ _ c.spread-pieces.ensures.spread agrees,
      record {
        labels = record { long = omega arith; rest = subst (λ (n : ℕ). drop n c.spread-pieces.new.labels ≡ drop n xs) e c.spread-pieces.ensures.rest };
        marks = subst (λ (n : ℕ). Cleared n c.args.marks.now c.drop-guard.new.self.0) e (record {
          zero = last.zero;
          beyond = record { long = omega arith; rest = last.beyond.rest ∙ c.spread-pieces.ensures.past ∙ c.clear.ensures.beyond.rest };
        });
      },
    )

pub returns : goal.returns
returns g c =
    let s = c.count-count.ensures.sound in
    let gr = g.met.N.Label.Label.group in
    let me = c.count-count.ensures.meant in
    let w = g.N.Net.web c.args.net.now in
    let xs = c.args.labels.now in
    let e = c.count-count.ensures.items in
    let last = c.drop-guard-2.ensures in (
      none_agrees (omega arith) (omega arith) (λ ys room a. let no = c.if-agrees.ensures.1 (spread_agrees s gr me _ _ c.spread-pieces.ensures.spread ys room a) in cc),
      blank (λ i lt. c.blank.ensures.neutral i (omega arith))
          (record {
            labels = record { long = omega arith; rest = subst (λ (n : ℕ). drop n c.blank.new.labels ≡ drop n xs) e (c.blank.ensures.rest ∙ c.spread-pieces.ensures.rest) };
            marks = subst (λ (n : ℕ). Cleared n c.args.marks.now c.drop-guard-2.new.self.0) e (record {
              zero = last.zero;
              beyond = record { long = omega arith; rest = last.beyond.rest ∙ c.spread-pieces.ensures.past ∙ c.clear.ensures.beyond.rest };
            });
          }),
    )
