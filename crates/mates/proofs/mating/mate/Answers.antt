use Rattle.std.proofs.Common.{◌≡◌, ℕ, List, sym, ◌∙◌, subst, ⊎_elim, arith}
use Rattle.std.proofs.lemmas.Bool.{both_ways}
use Rattle.std.proofs.lemmas.Result.{err_from_is_err_and}
use denote.Ref.{Bor}
use Rattle.refusal.specs.declared.Refusal.{Refusal}
use Rattle.refusal.specs.Causes.{First}
use Rattle.ground.specs.declared.stage.Sealed.{Sealed}
use Rattle.ground.specs.Grounds.{plain_sealed}
use Rattle.rules.specs.Joins.{Half, Joined, OnSkin, LawfulRows}
use Rattle.rules.specs.Questions.{HalfCause}
use Rattle.rules.specs.Mates.{Mated}
use Rattle.rules.specs.NetTests.{opposite}
use Rattle.rules.proofs.Opposites.{opposite_joined, joined_opposite}
use Rattle.rules.proofs.Webbed.{cases_option}
use Rattle.halves.specs.declared.edge.EdgePlace.{EdgePlace}
use Rattle.halves.specs.declared.half_face.HalfFace.{HalfFace}
use Rattle.halves.specs.HalfFaces.{rows_of}
use Rattle.halves.proofs.Grounds.{said_of}
use Rattle.mates.proofs.Refused.{place_first, half_first, first_joined, no_mate_cause}
use Rattle.mates.proofs.Returning.{leads_back}
use Rattle.mates.proofs.Opposed.{mates_opposed}
use Rattle.mates.proofs.mating.mate.Goals as goal

-- what is said of the half-face and the edge place, said of their numbers
asked : (sealed : Bor Sealed) (h e : ℕ) (here : HalfFace) (place : EdgePlace) → here.ground ≡ sealed → here.number ≡ h → place.number ≡ e
    → (P : List (List ℕ) → ℕ → ℕ → Type 0) → P (rows_of here) here.number place.number → P (plain_sealed sealed.now).list h e
asked sealed h e here place g n p P x =
    subst (P (plain_sealed sealed.now).list h) p (said_of (λ (rs : List (List ℕ)) (k : ℕ). P rs k place.number) here sealed h g n x)

-- what refuses a half-face refuses it under the number that was asked
same_half : {rs : List (List ℕ)} {h k : ℕ} {r : Refusal} → k ≡ h → First (HalfCause rs k) r → First (HalfCause rs h) r
same_half {rs} {h} {k} {r} q f = subst (λ (n : ℕ). First (HalfCause rs n) r) q f

-- a half-face that is not open is joined
joined_or_open : (rs : List (List ℕ)) (h : ℕ) → LawfulRows rs → Half rs h → (OnSkin rs h → ⊥) → (g : ℕ) × Joined rs h g
joined_or_open rs h law half closed =
    ⊎_elim
    (λ p. absurd (closed (half, λ g j. absurd (let e = sym p ∙ joined_opposite rs law.no_three h g j in cc))))
    (λ p. (p.0, opposite_joined rs h p.0 half p.1))
    (cases_option (opposite rs h))

pub returns-in_err-place-clause-tells : goal.returns-in_err-place-clause-tells
returns-in_err-place-clause-tells c =
    let p = err_from_is_err_and c.from_residual.result c.from_residual.ensures.1 in
    rw (p.1, p.2) (place_first (plain_sealed c.args.ground.now).list c.args.h c.args.place _ c.in_err-place.ensures)

pub returns-in_err-place-clause-opposed : goal.returns-in_err-place-clause-opposed
returns-in_err-place-clause-opposed c = mates_opposed (plain_sealed c.args.ground.now).list c.counts.ensures.lawful

pub returns-in_err-here-clause-tells : goal.returns-in_err-here-clause-tells
returns-in_err-here-clause-tells c =
    let p = err_from_is_err_and c.from_residual-in_err-here.result c.from_residual-in_err-here.ensures.1 in
    let low = c.in_ok-place.place.low in
    let same = c.in_ok-place.ensures.1 in
    rw (p.1, p.2) (half_first (plain_sealed c.args.ground.now).list c.args.h c.args.place (omega arith) _ (same_half (omega arith) c.in_err-here.ensures))

pub returns-in_err-here-clause-opposed : goal.returns-in_err-here-clause-opposed
returns-in_err-here-clause-opposed c = mates_opposed (plain_sealed c.args.ground.now).list c.counts.ensures.lawful

pub returns-then-not-is_open : goal.returns-then-not-is_open
returns-then-not-is_open c =
    let rs = (plain_sealed c.args.ground.now).list in
    let law = c.counts.ensures.lawful in
    let low = c.in_ok-place.place.low in
    let same = c.in_ok-place.ensures.1 in
    let here = c.in_ok-here.ensures.1 in
    let at = asked c.args.ground c.args.h c.args.place c.in_ok-here.here c.in_ok-place.place here.0 (omega arith) same in
    let half = at (λ rs h _. Half rs h) c.in_ok-here.here.present in
    let closed = at (λ rs h _. OnSkin rs h → ⊥) (λ o. both_ways c.is_open.result c.if-not-is_open.true (c.is_open.ensures.1 o)) in
    let j = joined_or_open rs c.args.h law half closed in
    record { tells = first_joined rs c.args.h c.args.place j.0 (omega arith) j.1; back = tt; opposed = mates_opposed rs law }

pub mate_at-requires : goal.mate_at-requires
mate_at-requires c = c.is_open.ensures.0 c.if-not-is_open.false

pub returns : goal.returns
returns c =
    let rs = (plain_sealed c.args.ground.now).list in
    let law = c.counts.ensures.lawful in
    let low = c.in_ok-place.place.low in
    let same = c.in_ok-place.ensures.1 in
    let here = c.in_ok-here.ensures.1 in
    let m = c.mate_at.result in
    let at = asked c.args.ground c.args.h c.args.place c.in_ok-here.here c.in_ok-place.place here.0 (omega arith) same in
    let skin = at (λ rs h _. OnSkin rs h) (c.is_open.ensures.0 c.if-not-is_open.false) in
    let mated = at (λ rs h e. Mated rs h e m.half_face m.place) c.mate_at.ensures in
    record {
      tells = (no_mate_cause rs c.args.h c.args.place (omega arith) skin, mated);
      back = leads_back rs law c.args.h c.args.place m.half_face m.place skin mated;
      opposed = mates_opposed rs law;
    }
