-- The net that a table gives is sound: what is joined names the other, both ways.
use Rattle.std.proofs.Common.{◌≡◌, ℕ, ◌+◌, ◌*◌, ◌<◌, ◌≤◌, true, ◌&&◌, ltb, ◌⊎◌, List, map, length, get_or, Some, None, Option, sym, refl, ap, ◌∙◌, subst, inl, inr, arith}
use Rattle.std.proofs.lemmas.List.{get_or-map}
use Rattle.std.proofs.lemmas.Bool.{cases_Bool, cond-true, cond-false, and_parts, and_from, ltb-true, eqb-true, eq-eqb}
use Rattle.carry.specs.declared.net.Place.{Place}
use Rattle.carry.specs.Kinds.{Kind, Group}
use Rattle.carry.specs.Webs.{Sound, StepsMeant}
use Rattle.checks.specs.Tables.{name_at, is_place, answered, joined, step_at, table_web}

is_place_lem : (o : Option Place) (i s : ℕ) → is_place o i s ≡ true → o ≡ Some (record { item = i; side = s })
is_place_lem None i s e = absurd (let z : ◌≡◌ {A = ℕ} 0 1 = cc in omega arith)
is_place_lem (Some q) i s e =
    let r = and_parts _ _ e in
    let a = eqb-true q.item i r.0 in
    let b = eqb-true q.side s r.1 in
    let at : ℕ → ℕ → Option Place = λ x y. Some (record { item = x; side = y }) in
    ap (λ (x : ℕ). at x q.side) a ∙ ap (at i) b

some_or : (o : Option Place) → (o ≡ None) ⊎ ((p : Place) × (o ≡ Some p))
some_or None = inl refl
some_or (Some p) = inr (p, refl)

place_is : (p : Place) → is_place (Some p) p.item p.side ≡ true
place_is p = and_from _ _ (eq-eqb p.item p.item refl) (eq-eqb p.side p.side refl)

module _ (n : ℕ) (names : List (Option Place)) where
  answered_some : (i s : ℕ) (p : Place) (o : Option Place) → answered n names i s o ≡ Some p → (o ≡ Some p) × (is_place (name_at n names p.item p.side) i s ≡ true)
  answered_some i s p None e = absurd (let z : ◌≡◌ {A = ℕ} 0 1 = cc in omega arith)
  answered_some i s p (Some q) e =
      let t = is_place (name_at n names q.item q.side) i s in
      elim (cases_Bool t) [
        | inl y ↦
            (let pq : Some q ≡ Some p = sym (cond-true t (Some q) None y) ∙ e in
            let qp : q ≡ p = cc in
            (pq, subst (λ (x : Place). is_place (name_at n names x.item x.side) i s ≡ true) qp y))
        | inr z ↦ absurd (let f = sym (cond-false t (Some q) None z) ∙ e in let y : ◌≡◌ {A = ℕ} 0 1 = cc in omega arith)
      ]

  -- each of two joined sides names the other
  pub both : (i s : ℕ) (p : Place) → joined n names i s ≡ Some p → (name_at n names i s ≡ Some p) × (name_at n names p.item p.side ≡ Some (record { item = i; side = s }))
  unfolding joined
  both i s p e = let r = answered_some i s p (name_at n names i s) e in (r.0, is_place_lem _ i s r.1)

  named_inside : (i s : ℕ) (p : Place) → name_at n names i s ≡ Some p → (i < n) × (s < 2)
  unfolding name_at
  named_inside i s p e =
      let t = ltb i n && ltb s 2 in
      elim (cases_Bool t) [
        | inl y ↦ (let r = and_parts _ _ y in (ltb-true i n r.0, ltb-true s 2 r.1))
        | inr z ↦ absurd (let f = sym (cond-false t (get_or names (2 * i + s) None) None z) ∙ e in let y : ◌≡◌ {A = ℕ} 0 1 = cc in omega arith)
      ]

  pub joined_inside : (i s : ℕ) (p : Place) → joined n names i s ≡ Some p → (i < n) × (s < 2)
  joined_inside i s p e = named_inside i s p (both i s p e).0

  -- its step stands in the list
  pub joined_listed : n ≤ 4 → (i s : ℕ) {p : Place} → joined n names i s ≡ Some p → 2 * i + s < 8
  joined_listed few i s {p = p} e = let r = joined_inside i s p e in omega arith

  joined_back : (i s : ℕ) (p : Place) → joined n names i s ≡ Some p → joined n names p.item p.side ≡ Some (record { item = i; side = s })
  unfolding joined
  joined_back i s p e =
      let b = both i s p e in
      ap (answered n names p.item p.side) b.1
      ∙ cond-true _ (Some (record { item = i; side = s })) None (ap (λ (o : Option Place). is_place o p.item p.side) b.0 ∙ place_is p)

  pub table_sound : (steps : List ℕ) (k : Kind) → n ≤ 4 → Sound (table_web n names steps k) k
  table_sound steps k few = record {
    few_items = omega arith;
    some_side = omega arith;
    few_sides = omega arith;
    inside = joined_inside;
    within = λ i s p e. named_inside p.item p.side _ (both i s p e).1;
    back = joined_back;
    still = λ i s e. ap (λ (o : Option Place). step_at o k.neutral (get_or steps (2 * i + s) 0)) e;
  }

  pub table_meant : {M : Type 0} {meaning : M → ℕ} {k : Kind} → Group meaning k → (xs : List M) → n ≤ 4 → length xs ≡ 8 → StepsMeant (table_web n names (map meaning xs) k) meaning
  table_meant {meaning = meaning} {k = k} group xs few long i s =
      let d = group.neutral_meant in
      let o = joined n names i s in
      elim (some_or o) [
        | inl none ↦ (d.0, d.1 ∙ sym (ap (λ (o : Option Place). step_at o k.neutral (get_or (map meaning xs) (2 * i + s) 0)) none))
        | inr (p, e) ↦
            (let less : 2 * i + s < length xs = omega (arith, joined_listed few i s e) in
            (get_or xs (2 * i + s) d.0, sym (get_or-map meaning xs (2 * i + s) d.0 0 less) ∙ sym (ap (λ (o : Option Place). step_at o k.neutral (get_or (map meaning xs) (2 * i + s) 0)) e)))
      ]
