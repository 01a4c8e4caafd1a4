-- Labels over a net of rows, by computation: labels that agree, and rings over which none do.
-- A net of rows is taken here by what its step from a half-face h to its opposite g is: f h g.
use Rattle.std.proofs.Common.{◌≡◌, ℕ, zero, suc, ◌+◌, ◌*◌, ◌/◌, ◌%◌, ◌<◌, Bool, true, not, ◌&&◌, ◌||◌, eqb, ltb, List, [], ◌∷◌, map, length, get_or, Some, sym, refl, ap, ◌∙◌, subst, ⊎_elim, arith}
use Rattle.std.proofs.lemmas.Bool.{and_parts, or_cases, both_ways, ltb-true, eqb-true, eq-eqb, not-true, cases_eq}
use Rattle.carry.specs.declared.net.Place.{Place}
use Rattle.carry.specs.Kinds.{Kind}
use Rattle.carry.specs.Webs.{Web}
use Rattle.carry.specs.Agreement.{Reach, FirstItem, Agrees, Agreeing}
use Rattle.carry.specs.Agreement.Reach.{here, on}
use Rattle.carry.specs.Walks.{Led}
use Rattle.carry.specs.Walks.Led.{starts, goes}
use Rattle.carry.specs.Counting.{Counts}
use Rattle.carry.specs.Counting.Counts.{none, one, skip}
use Rattle.carry.proofs.Ways.{reached, reach_on, determined}
use Rattle.rules.specs.Joins.{Joined}
use Rattle.rules.specs.Nets.{JoinedSides, CellWeb}
use Rattle.rules.specs.NetTests.{meets, opposite}
use Rattle.rules.proofs.Opposites.{opposite_joined, joined_sym}
use Rattle.cases.proofs.Finite.{every, every_at, some, some_at, implies, implied, has, has_at}
use Rattle.cases.proofs.Halves.{joined_meets}

-- THE TESTS

-- the labels agree over h and g if these meet
unfoldable pub agrees_over : List (List ℕ) → Kind → (ℕ → ℕ → ℕ) → List ℕ → ℕ → ℕ → Bool
agrees_over rs k f ls h g = implies (meets rs h g) (eqb (get_or ls (g / 4) 0) (k.combined (get_or ls (h / 4) 0) (f h g)))

-- they agree over all joins
unfoldable pub agrees_all : List (List ℕ) → Kind → (ℕ → ℕ → ℕ) → List ℕ → Bool
agrees_all rs k f ls = every (4 * length rs) (λ h. every (4 * length rs) (agrees_over rs k f ls h))

-- cell i is the first, or joined to one before it
unfoldable pub follows : List (List ℕ) → ℕ → Bool
follows rs i = eqb i 0 || some 4 (λ s. has (opposite rs (4 * i + s)) (λ g. ltb (g / 4) i))

-- the labels agree and are neutral at the first cell, from which all are reached
unfoldable pub carries : List (List ℕ) → Kind → (ℕ → ℕ → ℕ) → List ℕ → Bool
carries rs k f ls = agrees_all rs k f ls && (every (length rs) (follows rs) && (ltb 0 (length rs) && eqb (get_or ls 0 0) k.neutral))

-- from cell i, labelled y, the half-faces lead back to the cell start with another label than x
unfoldable pub changes : List (List ℕ) → Kind → (ℕ → ℕ → ℕ) → ℕ → ℕ → ℕ → ℕ → List ℕ → Bool
changes rs k f start x i y [] = eqb i start && not (eqb y x)
changes rs k f start x i y (h ∷ hs) = (ltb h (4 * length rs) && eqb (h / 4) i) && has (opposite rs h) (λ g. changes rs k f start x (g / 4) (k.combined y (f h g)) hs)

-- a label of a list that is mapped
pub label_at : {M : Type 0} (meaning : M → ℕ) (xs : List M) (i : ℕ) → i < length xs → (x : M) × (get_or (map meaning xs) i 0 ≡ meaning x)
label_at meaning [] i l = absurd (omega arith)
label_at meaning (x ∷ xs) zero l = (x, refl)
label_at meaning (x ∷ xs) (suc i) l = label_at meaning xs i (omega arith)

abbrev at : ℕ → Place
at g = record { item = g / 4; side = g % 4 }

module _ (rs : List (List ℕ)) (w : Web) (k : Kind) (f : ℕ → ℕ → ℕ) (c : CellWeb rs w)
    (st : (i s : ℕ) (p : Place) → JoinedSides rs i s p → w.steps i s ≡ f (4 * i + s) (4 * p.item + p.side)) where
  -- the join of two half-faces, and its step
  across : (h g : ℕ) → Joined rs h g → (w.joins (h / 4) (h % 4) ≡ Some (at g)) × (w.steps (h / 4) (h % 4) ≡ f h g)
  across h g j =
      let z : 4 * (h / 4) + h % 4 ≡ h = omega arith in
      let y : 4 * (g / 4) + g % 4 ≡ g = omega arith in
      let l = j.half in
      let s : JoinedSides rs (h / 4) (h % 4) (at g) = record {
        item = omega arith;
        side = omega arith;
        entered = omega arith;
        joined = subst (λ (x : ℕ). Joined rs x (4 * (g / 4) + g % 4)) (sym z) (subst (λ (x : ℕ). Joined rs h x) (sym y) j);
      } in
      ((c.joins (h / 4) (h % 4) (at g)).1 s, st (h / 4) (h % 4) (at g) s ∙ ap (λ (x : ℕ). f x (4 * (g / 4) + g % 4)) z ∙ ap (f h) y)

  over : (ls : List ℕ) → Agrees w k ls → (h g : ℕ) → Joined rs h g → get_or ls (g / 4) 0 ≡ k.combined (get_or ls (h / 4) 0) (f h g)
  over ls a h g j = let e = across h g j in a (h / 4) (h % 4) (at g) e.0 ∙ ap (k.combined (get_or ls (h / 4) 0)) e.1

  -- LABELS THAT AGREE

  agrees_by : (ls : List ℕ) → agrees_all rs k f ls ≡ true → Agrees w k ls
  unfolding agrees_all agrees_over
  agrees_by ls t i s p e =
      let j = (c.joins i s p).0 e in
      let h = 4 * i + s in
      let g = 4 * p.item + p.side in
      let a = j.side in
      let b = j.entered in
      let e1 : h / 4 ≡ i = omega arith in
      let e2 : g / 4 ≡ p.item = omega arith in
      let t1 = every_at (4 * length rs) (λ h. every (4 * length rs) (agrees_over rs k f ls h)) t h j.joined.half in
      let t2 = every_at (4 * length rs) (agrees_over rs k f ls h) t1 g j.joined.there in
      let z = eqb-true (get_or ls (g / 4) 0) (k.combined (get_or ls (h / 4) 0) (f h g)) (implied (meets rs h g) _ t2 (joined_meets rs h g j.joined)) in
      ap (λ (x : ℕ). get_or ls x 0) (sym e2) ∙ z ∙ ap (λ (x : ℕ). k.combined (get_or ls x 0) (f h g)) e1 ∙ ap (k.combined (get_or ls i 0)) (sym (st i s p j))

  module _ (ls : List ℕ) (agree : Agrees w k ls) (fol : every (length rs) (follows rs) ≡ true) (some-row : 0 < length rs) (neutral : get_or ls 0 0 ≡ k.neutral) where
    -- every cell but the first is joined to one before it
    before : (i : ℕ) → i < length rs → (i ≡ 0 → ⊥) → (h : ℕ) × (g : ℕ) × Joined rs h g × (h / 4 ≡ i) × (g / 4 < i)
    unfolding follows
    before i l n =
        ⊎_elim
        (λ q. absurd (n (eqb-true i 0 q)))
        (λ q. let s = some_at 4 (λ s. has (opposite rs (4 * i + s)) (λ g. ltb (g / 4) i)) q in
        let m = s.1 in
        let o = has_at (opposite rs (4 * i + s.0)) (λ g. ltb (g / 4) i) s.2 in
        (4 * i + s.0, o.0, opposite_joined rs (4 * i + s.0) o.0 (omega arith) o.1, omega arith, ltb-true (o.0 / 4) i o.2))
        (or_cases (eqb i 0) _ (every_at (length rs) (follows rs) fol i l))

    -- so there is a way to each from the first, and back
    way : (m i : ℕ) → i < m → i < length rs → Led w k 0 i (get_or ls i 0) × Reach w i 0
    way zero i l n = absurd (omega arith)
    way (suc m) i l n =
        ⊎_elim
        (λ z. subst (λ (x : ℕ). Led w k 0 x (get_or ls x 0) × Reach w x 0) (sym z) (subst (Led w k 0 0) (sym neutral) starts, here))
        (λ z. let b = before i n z in
        let h = b.0 in
        let g = b.1 in
        let lt = b.4 in
        let r = way m (g / 4) (omega arith) (omega arith) in
        let e = across g h (joined_sym rs h g b.2) in
        subst (λ (x : ℕ). Led w k 0 x (get_or ls x 0) × Reach w x 0) b.3
        (subst (Led w k 0 (h / 4)) (sym (agree (g / 4) (g % 4) (at h) e.0)) (goes r.0 e.0), reach_on (on here (across h g b.2).0) r.1))
        (cases_eq i 0)

    first_only : (i : ℕ) → FirstItem w i → i ≡ 0
    first_only i q = let l = q.0 in let e = c.items in let z = q.1 0 (way (suc i) i (omega arith) (omega arith)).1 in omega arith

    first_0 : FirstItem w 0
    first_0 = (let e = c.items in omega arith, λ j r. omega arith)

    one_first : (n : ℕ) → Counts (FirstItem w) (suc n) 1
    one_first zero = one none first_0
    one_first (suc n) = skip (one_first n) (λ q. let z = first_only (suc n) q in omega arith)

    count_first : (n : ℕ) → 0 < n → Counts (FirstItem w) n 1
    count_first zero l = absurd (omega arith)
    count_first (suc n) l = one_first n

    in_rows : (i : ℕ) → i < w.items → i < length rs
    in_rows i l = let e = c.items in omega arith

    pub agreeing : {M : Type 0} (meaning : M → ℕ) → Agreeing w k meaning ls 1
    agreeing meaning = record {
      agrees = agree;
      grounded = λ i q. ap (λ (x : ℕ). get_or ls x 0) (first_only i q) ∙ neutral;
      only = λ xs room a g i l. determined (map meaning xs) a (g 0 first_0) (way (suc i) i (omega arith) (in_rows i l)).0;
      counted = count_first w.items (let e = c.items in omega arith);
      pieced = λ i l. (0, first_0, reached (way (suc i) i (omega arith) (in_rows i l)).0);
    }

  pub carried : {M : Type 0} (meaning : M → ℕ) (ls : List ℕ) → carries rs k f ls ≡ true → Agreeing w k meaning ls 1
  unfolding carries
  carried meaning ls e =
      let a = and_parts (agrees_all rs k f ls) _ e in
      let b = and_parts (every (length rs) (follows rs)) _ a.1 in
      let d = and_parts (ltb 0 (length rs)) _ b.1 in
      agreeing ls (agrees_by ls a.0) b.0 (ltb-true 0 (length rs) d.0) (eqb-true (get_or ls 0 0) k.neutral d.1) meaning

  -- LABELS THAT DO NOT

  pub round : (ls : List ℕ) → Agrees w k ls → (start x : ℕ) → get_or ls start 0 ≡ x → (hs : List ℕ) (i y : ℕ) → get_or ls i 0 ≡ y → changes rs k f start x i y hs ≡ true → ⊥
  unfolding changes
  round ls a start x ex [] i y ey e =
      let p = and_parts (eqb i start) _ e in
      both_ways (eqb y x) (not-true _ p.1) (eq-eqb y x (sym ey ∙ ap (λ (z : ℕ). get_or ls z 0) (eqb-true i start p.0) ∙ ex))
  round ls a start x ex (h ∷ hs) i y ey e =
      let p = and_parts (ltb h (4 * length rs) && eqb (h / 4) i) _ e in
      let q = and_parts (ltb h (4 * length rs)) _ p.0 in
      let P : ℕ → Bool = λ g. changes rs k f start x (g / 4) (k.combined y (f h g)) hs in
      let o = has_at (opposite rs h) P p.1 in
      let g = o.0 in
      let j = opposite_joined rs h g (ltb-true h (4 * length rs) q.0) o.1 in
      let z : get_or ls (h / 4) 0 ≡ y = ap (λ (z : ℕ). get_or ls z 0) (eqb-true (h / 4) i q.1) ∙ ey in
      round ls a start x ex hs (g / 4) (k.combined y (f h g)) (over ls a h g j ∙ ap (λ (z : ℕ). k.combined z (f h g)) z) o.2
