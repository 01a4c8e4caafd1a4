use Rattle.std.proofs.Common.{◌≡◌, ℕ, ◌<◌, ◌≤◌, List, [], length, get_or, Ok, Err, sym, refl, ◌∙◌, subst, ⊎_elim, arith}
use Rattle.std.proofs.lemmas.Result.{err_from_is_err_and}
use Rattle.refusal.specs.Causes.{First}
use Rattle.rules.specs.Rows.{row}
use Rattle.rules.specs.PlainList.{LayCause}
use Rattle.rules.proofs.Causes.{first_high, first_equal, first_full, first_present, first_taken, no_cause}
use Rattle.rules.proofs.Corners.{vertices_to}
use Rattle.rules.proofs.Judged.{high_so, repeat_so, not_high, not_repeated}
use Rattle.ground.specs.declared.stage.Open.{Open}
use Rattle.ground.specs.Grounds.{plain}
use Rattle.ground.specs.Searches.{Partners}
use Rattle.ground.proofs.Grounds.{many, same_plain}
use Rattle.ground.proofs.Viewed.{seen}
use Rattle.ground.proofs.stage.Open.lay.Goals as goal

full : (g : Open) → length g.cells.records.now ≤ g.cells.count → (plain g).places ≤ length (plain g).list
full g l = omega (arith, many g.cells)

not_full : (g : Open) → g.cells.count < length g.cells.records.now → (plain g).places ≤ length (plain g).list → ⊥
not_full g l m = omega (arith, many g.cells)

pub returns-then-too_high-clause-lays : goal.returns-then-too_high-clause-lays
returns-then-too_high-clause-lays c =
    let x = row c.args.a c.args.b c.args.c c.args.d in
    (first_high (plain c.args.self.now) x (high_so x (sym c.too_high.ensures ∙ c.if-too_high.true)), refl)

pub returns-then-repeated-clause-lays : goal.returns-then-repeated-clause-lays
returns-then-repeated-clause-lays c =
    let x = row c.args.a c.args.b c.args.c c.args.d in
    (first_equal (plain c.args.self.now) x (not_high x (sym c.too_high.ensures ∙ c.if-too_high.false)) (repeat_so x (sym c.repeated.ensures ∙ c.if-repeated.true)), refl)

pub returns-then-count-self-clause-lays : goal.returns-then-count-self-clause-lays
returns-then-count-self-clause-lays c =
    let x = row c.args.a c.args.b c.args.c c.args.d in (
      first_full (plain c.args.self.now) x (not_high x (sym c.too_high.ensures ∙ c.if-too_high.false)) (not_repeated x (sym c.repeated.ensures ∙ c.if-repeated.false))
          (full c.args.self.now c.if-count-self.true),
      refl,
    )

pub returns-in_err-joins-clause-lays : goal.returns-in_err-joins-clause-lays
returns-in_err-joins-clause-lays c =
    let g = c.args.self.now in
    let x = row c.args.a c.args.b c.args.c c.args.d in
    let a = not_high x (sym c.too_high.ensures ∙ c.if-too_high.false) in
    let b = not_repeated x (sym c.repeated.ensures ∙ c.if-repeated.false) in
    let full = not_full g c.if-count-self.false in
    let p = err_from_is_err_and c.from_residual.result c.from_residual.ensures.1 in
    let e : c.from_residual.result ≡ Err c.in_err-joins.field-0.0 = cc (p.1, p.2) in
    let q = subst (λ (z : List (List ℕ)). Partners z x (Err c.in_err-joins.field-0.0)) (seen c.joined.result g.cells c.joined.ensures.records c.joined.ensures.many) c.in_err-joins.ensures in
    rw e (
      ⊎_elim
          (λ w. subst (First (LayCause (plain g) x)) (sym w.0) (first_present (plain g) x a b full w.1))
          (λ w. subst (First (LayCause (plain g) x)) (sym w.0) (first_taken (plain g) x a b full w.1 w.2))
          q,
      refl,
    )

pub returns-clause-lays : goal.returns-clause-lays
returns-clause-lays c =
    let g = c.args.self.now in
    let x = row c.args.a c.args.b c.args.c c.args.d in
    let a = not_high x (sym c.too_high.ensures ∙ c.if-too_high.false) in
    let b = not_repeated x (sym c.repeated.ensures ∙ c.if-repeated.false) in
    let q = subst (λ (z : List (List ℕ)). Partners z x (Ok c.in_ok-joins.joins)) (seen c.joined.result g.cells c.joined.ensures.records c.joined.ensures.many) c.in_ok-joins.ensures in (
      no_cause (plain g) x a b (not_full g c.if-count-self.false) (λ s. q.0.fresh s.0 s.1 (vertices_to (get_or (plain g).list s.0 []) x s.2)) q.1,
      (sym (many g.cells), same_plain _ _ _ _ _ _ c.append.ensures.list c.append.ensures.places c.one_more-self.ensures),
    )
