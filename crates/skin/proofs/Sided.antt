-- The net that a list of sides gives. It is sound where each side leads to a side that leads back.
use Rattle.std.proofs.Common.{◌≡◌, ℕ, ◌+◌, ◌*◌, ◌/◌, ◌%◌, ◌<◌, ◌≤◌, true, false, ◌⊎◌, List, Option, Some, None, sym, ap, ◌∙◌, subst, inl, inr, ⊎_elim, arith}
use Rattle.std.proofs.lemmas.Bool.{cases_lt, cond-true, cond-false, and_from, and_left, and_right, lt-ltb, le-ltb}
use Rattle.std.specs.Option.{MatchOption}
use Rattle.carry.specs.declared.net.Place.{Place}
use Rattle.carry.specs.declared.turn.Turn.{Turn}
use Rattle.carry.specs.declared.turn.Turn.TheVariants.{Straight}
use Rattle.carry.specs.Turns.{turn_meaning, turn_kind}
use Rattle.carry.specs.Webs.{Sound, StepsMeant}
use Rattle.skin.specs.declared.side.Side.{Side}
use Rattle.skin.specs.Sides.{mate_at, turn_at}
use Rattle.skin.specs.SkinTables.{inside, SideAt, side_of, side_joins, side_steps, side_web}

-- a side by its number and by its item and edge place
pub side_item : (i e : ℕ) → e < 3 → (3 * i + e) / 3 ≡ i
side_item i e l = omega arith

pub side_place : (i e : ℕ) → e < 3 → (3 * i + e) % 3 ≡ e
side_place i e l = omega arith

pub place_is : (p : Place) (i e : ℕ) → p.item ≡ i → p.side ≡ e → p ≡ record { item = i; side = e }
place_is p i e a b =
    let at : ℕ → ℕ → Place = λ x y. record { item = x; side = y } in
    ap (λ (x : ℕ). at x p.side) a ∙ ap (at i) b

module _ (n : ℕ) (xs : List Side) where
  inside_so : (i e : ℕ) → i < n → e < 3 → inside n i e ≡ true
  inside_so i e l m = and_from _ _ (lt-ltb i n l) (lt-ltb e 3 m)

  outside_so : (i e : ℕ) → (n ≤ i) ⊎ (3 ≤ e) → inside n i e ≡ false
  outside_so i e (inl l) = and_left _ _ (le-ltb i n l)
  outside_so i e (inr l) = and_right _ _ (le-ltb e 3 l)

  pub join_in : (i e : ℕ) → i < n → e < 3 → side_joins n xs i e ≡ Some (side_of (mate_at xs (3 * i + e)))
  unfolding side_joins
  join_in i e l m = cond-true (inside n i e) _ _ (inside_so i e l m)

  pub join_out : (i e : ℕ) → (n ≤ i) ⊎ (3 ≤ e) → side_joins n xs i e ≡ None
  unfolding side_joins
  join_out i e o = cond-false (inside n i e) _ _ (outside_so i e o)

  pub step_in : (i e : ℕ) → i < n → e < 3 → side_steps n xs i e ≡ turn_meaning (turn_at xs (3 * i + e))
  unfolding side_steps
  step_in i e l m = cond-true (inside n i e) _ _ (inside_so i e l m)

  pub step_out : (i e : ℕ) → (n ≤ i) ⊎ (3 ≤ e) → side_steps n xs i e ≡ 0
  unfolding side_steps
  step_out i e o = cond-false (inside n i e) _ _ (outside_so i e o)

  -- the step that is told of what stands at a side, or of none
  pub step_told : (i e : ℕ) (o : Option Side) (t : Turn) {R : Side → Type 0} → SideAt n xs i e o → MatchOption o (t ≡ Straight) R → ((x : Side) → R x → t ≡ x.turn) → turn_meaning t ≡ side_steps n xs i e
  step_told i e None t out s by = ap turn_meaning s ∙ sym (step_out i e out)
  step_told i e (Some x) t at s by = ap turn_meaning (by x s) ∙ ap (λ (y : Side). turn_meaning y.turn) at.2 ∙ sym (step_in i e at.0 at.1)

  in_or_out : (i e : ℕ) → ((i < n) × (e < 3)) ⊎ ((n ≤ i) ⊎ (3 ≤ e))
  in_or_out i e = ⊎_elim (λ l. ⊎_elim (λ m. inl (l, m)) (λ m. inr (inr m)) (cases_lt e 3)) (λ l. inr (inl l)) (cases_lt i n)

  pub join_is : (i e : ℕ) (p : Place) → side_joins n xs i e ≡ Some p → (i < n) × (e < 3) × (p ≡ side_of (mate_at xs (3 * i + e)))
  join_is i e p s =
      ⊎_elim
      (λ o. let j = join_in i e o.0 o.1 in (o.0, o.1, cc))
      (λ o. let j = join_out i e o in absurd (let z : ◌≡◌ {A = ℕ} 0 1 = cc in omega arith))
      (in_or_out i e)

  pub join_still : (i e : ℕ) → side_joins n xs i e ≡ None → side_steps n xs i e ≡ 0
  join_still i e s =
      ⊎_elim
      (λ o. let j = join_in i e o.0 o.1 in absurd (let z : ◌≡◌ {A = ℕ} 0 1 = cc in omega arith))
      (step_out i e)
      (in_or_out i e)

  pub steps_meant : StepsMeant (side_web n xs) turn_meaning
  steps_meant i e = ⊎_elim (λ o. (turn_at xs (3 * i + e), sym (step_in i e o.0 o.1))) (λ o. (Straight, sym (step_out i e o))) (in_or_out i e)

  module _ (near : (k : ℕ) → k < 3 * n → mate_at xs k < 3 * n) (back : (k : ℕ) → k < 3 * n → mate_at xs (mate_at xs k) ≡ k) where
    back_in : (i e : ℕ) → i < n → e < 3 → side_joins n xs (mate_at xs (3 * i + e) / 3) (mate_at xs (3 * i + e) % 3) ≡ Some (record { item = i; side = e })
    back_in i e l m =
        let k : ℕ = mate_at xs (3 * i + e) in
        let low : k < 3 * n = near (3 * i + e) (omega arith) in
        let same : mate_at xs (3 * (k / 3) + k % 3) ≡ 3 * i + e = ap (mate_at xs) (omega arith) ∙ back (3 * i + e) (omega arith) in
        join_in (k / 3) (k % 3) (omega arith) (omega arith)
        ∙ ap Some (place_is (side_of (mate_at xs (3 * (k / 3) + k % 3))) i e (ap (λ (x : ℕ). x / 3) same ∙ side_item i e m) (ap (λ (x : ℕ). x % 3) same ∙ side_place i e m))

    pub sides_sound : n ≤ 4096 → Sound (side_web n xs) turn_kind
    sides_sound few = record {
      few_items = few;
      some_side = omega arith;
      few_sides = omega arith;
      inside = λ i e p s. let r = join_is i e p s in (r.0, r.1);
      within = λ i e p s.
          let r = join_is i e p s in let l = r.0 in let m = r.1 in
          let low = near (3 * i + e) (omega arith) in
          (subst (λ (q : Place). q.item < n) (sym r.2) (omega arith), subst (λ (q : Place). q.side < 3) (sym r.2) (omega arith));
      back = λ i e p s.
          let r = join_is i e p s in
          subst (λ (q : Place). side_joins n xs q.item q.side ≡ Some (record { item = i; side = e })) (sym r.2) (back_in i e r.0 r.1);
      still = join_still;
    }
