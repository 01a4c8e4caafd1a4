-- The star net of an edge or a vertex, and what its number of pieces says of the star.
use Rattle.std.proofs.Common.{◌≡◌, ℕ, zero, suc, ◌+◌, ◌*◌, ◌/◌, ◌%◌, ◌<◌, ◌≤◌, Bool, true, false, ◌&&◌, eqb, ltb, ◌⊎◌, List, [], map, length, get_or, replicate, Some, None, sym, refl, ap, ◌∙◌, subst, inl, inr, ⊎_elim, arith}
use lib.ListN.{length-replicate}
use Rattle.std.proofs.lemmas.Bool.{cases_Bool, cond-true, cond-false, and_parts, and_from, both_ways, lt-ltb, ltb-true, eq-eqb, or_left, or_right}
use Rattle.refusal.specs.declared.Refusal.{Refusal}
use Rattle.carry.specs.declared.net.Place.{Place}
use Rattle.carry.specs.declared.turn.Turn.{Turn}
use Rattle.carry.specs.declared.turn.Turn.TheVariants.{Straight}
use Rattle.carry.specs.Webs.{Sound}
use Rattle.carry.specs.Turns.{turn_meaning, turn_kind}
use Rattle.carry.specs.Agreement.{Reach, FirstItem, Agrees, Agreeing}
use Rattle.carry.specs.Agreement.Reach.{here, on}
use Rattle.carry.specs.Counting.{Counts}
use Rattle.carry.specs.Counting.Counts.{none, one, skip}
use Rattle.carry.specs.Carrying.{CarryCause}
use Rattle.carry.specs.Carrying.CarryCause.{few_labels, few_marks, none_agree}
use Rattle.carry.proofs.Ways.{reach_on, reach_back}
use Rattle.rules.specs.Rows.{In}
use Rattle.rules.specs.Readings.{reads, On}
use Rattle.rules.specs.Joins.{Joined, NoThree}
use Rattle.rules.specs.Listings.{Many}
use Rattle.rules.specs.Questions.{AtEdge}
use Rattle.rules.specs.Nets.{JoinedSides}
use Rattle.rules.specs.Tests as T
use Rattle.rules.specs.Tests.{picks}
use Rattle.rules.specs.NetTests.{among, read_at, cell_joins, turning, holds, star_joins, star_web}
use Rattle.rules.specs.Soundness.{Holds, Leads, Linked}
use Rattle.rules.specs.Soundness.Leads.{stays, crosses}
use Rattle.rules.proofs.Corners.{on_at, in_to, in_from}
use Rattle.rules.proofs.Counted.{counted_one, one_counted, counts_picks, many_counts}
use Rattle.rules.proofs.Opposites.{joined_sym, cell_web_is}
use Rattle.rules.proofs.Webbed.{among_cases}

-- WHAT A HALF-FACE HOLDS

among_on : (a : List ℕ) (v : ℕ) → (v ≡ get_or a 0 0) ⊎ ((v ≡ get_or a 1 0) ⊎ (v ≡ get_or a 2 0)) → among a v ≡ true
among_on a v =
    ⊎_elim
    (λ e. or_left _ _ (eq-eqb (get_or a 0 0) v (sym e)))
    (⊎_elim
    (λ e. or_right (eqb (get_or a 0 0) v) _ (or_left _ _ (eq-eqb (get_or a 1 0) v (sym e))))
    (λ e. or_right (eqb (get_or a 0 0) v) _ (or_right (eqb (get_or a 1 0) v) _ (eq-eqb (get_or a 2 0) v (sym e)))))

on_among : (a : List ℕ) (v : ℕ) → among a v ≡ true → (v ≡ get_or a 0 0) ⊎ ((v ≡ get_or a 1 0) ⊎ (v ≡ get_or a 2 0))
on_among a v t = ⊎_elim (λ e. inl (sym e)) (⊎_elim (λ e. inr (inl (sym e))) (λ e. inr (inr (sym e)))) (among_cases a v t)

pub holds_so : (rs : List (List ℕ)) (v w h : ℕ) → holds rs v w h ≡ true → Holds rs v w h
unfolding holds
holds_so rs v w h t = let a = and_parts (among (read_at rs h) v) _ t in (on_among (read_at rs h) v a.0, on_among (read_at rs h) w a.1)

pub holds_to : (rs : List (List ℕ)) (v w h : ℕ) → Holds rs v w h → holds rs v w h ≡ true
unfolding holds
holds_to rs v w h a = and_from _ _ (among_on (read_at rs h) v a.0) (among_on (read_at rs h) w a.1)

-- a cell has the vertices of its half-faces
on_cell : (rs : List (List ℕ)) (v h : ℕ) → On v (reads rs h) → In v (get_or rs (h / 4) [])
on_cell rs v h o = let a = on_at (get_or rs (h / 4) []) v (h % 4) (omega arith) o in (a.0, a.1, a.3)

pub holds_at : (rs : List (List ℕ)) (v w h : ℕ) → h < 4 * length rs → Holds rs v w h → AtEdge rs v w (h / 4)
holds_at rs v w h l a = (omega arith, on_cell rs v h a.0, on_cell rs w h a.1)

holds_across : (rs : List (List ℕ)) (v w h g : ℕ) → Joined rs h g → Holds rs v w h → Holds rs v w g
holds_across rs v w h g j a = ((j.same v).0 a.0, (j.same w).0 a.1)

-- THE CELLS AT AN EDGE, BY A TEST

at_test : List (List ℕ) → ℕ → ℕ → ℕ → Bool
at_test rs v w t = ltb t (length rs) && (T.on (get_or rs t []) 4 v && T.on (get_or rs t []) 4 w)

at_so : (rs : List (List ℕ)) (v w t : ℕ) → at_test rs v w t ≡ true → AtEdge rs v w t
unfolding at_test
at_so rs v w t p =
    let a = and_parts (ltb t (length rs)) _ p in
    let b = and_parts (T.on (get_or rs t []) 4 v) _ a.1 in
    (ltb-true t (length rs) a.0, in_from (get_or rs t []) v b.0, in_from (get_or rs t []) w b.1)

at_to : (rs : List (List ℕ)) (v w t : ℕ) → AtEdge rs v w t → at_test rs v w t ≡ true
unfolding at_test
at_to rs v w t a = and_from _ _ (lt-ltb t (length rs) a.0) (and_from _ _ (in_to (get_or rs t []) v a.1) (in_to (get_or rs t []) w a.2))

-- so many cells have v and w, counted from the first cell on
pub star_counts : (rs : List (List ℕ)) (v w c : ℕ) → Many (AtEdge rs v w) c → Counts (AtEdge rs v w) (length rs) c
star_counts rs v w c m =
    subst (Counts (AtEdge rs v w) (length rs))
    (sym (many_counts (at_test rs v w) (AtEdge rs v w) (length rs) c (λ k l. at_so rs v w k) (λ k a. (a.0, at_to rs v w k a)) m))
    (counts_picks (at_test rs v w) (AtEdge rs v w) (at_so rs v w) (at_to rs v w) (length rs))

-- THE STAR NET

zeros : (n i : ℕ) → get_or (map turn_meaning (replicate n Straight)) i 0 ≡ 0
zeros zero i = refl
zeros (suc n) zero = refl
zeros (suc n) (suc i) = zeros n i

module _ (rs : List (List ℕ)) (v w : ℕ) where
  pub star_to : (i s : ℕ) (p : Place) → holds rs v w (4 * i + s) ≡ true → cell_joins rs i s ≡ Some p → star_joins rs v w i s ≡ Some p
  unfolding star_joins
  star_to i s p b e = cond-true (holds rs v w (4 * i + s)) _ _ b ∙ e

  pub star_not : (i s : ℕ) → holds rs v w (4 * i + s) ≡ false → star_joins rs v w i s ≡ None
  unfolding star_joins
  star_not i s b = cond-false (holds rs v w (4 * i + s)) _ _ b

  pub star_open : (i s : ℕ) → cell_joins rs i s ≡ None → star_joins rs v w i s ≡ None
  unfolding star_joins
  star_open i s e =
      ⊎_elim (λ b. cond-true (holds rs v w (4 * i + s)) _ _ b ∙ e) (λ b. cond-false (holds rs v w (4 * i + s)) _ _ b) (cases_Bool (holds rs v w (4 * i + s)))

  star_from : (i s : ℕ) (p : Place) → star_joins rs v w i s ≡ Some p → (holds rs v w (4 * i + s) ≡ true) × (cell_joins rs i s ≡ Some p)
  unfolding star_joins
  star_from i s p e =
      ⊎_elim (λ b. (b, sym (cond-true (holds rs v w (4 * i + s)) _ _ b) ∙ e))
      (λ b. absurd (let y : None ≡ Some p = sym (cond-false (holds rs v w (4 * i + s)) _ _ b) ∙ e in let z : ◌≡◌ {A = ℕ} 0 1 = cc in omega arith))
      (cases_Bool (holds rs v w (4 * i + s)))

  -- all steps are neutral, so neutral labels agree, and carry never refuses
  plain_agree : (n : ℕ) → Agrees (star_web rs v w) turn_kind (map turn_meaning (replicate n Straight))
  plain_agree n i s p e = zeros n p.item ∙ ap (λ (m : ℕ). (m + 0) % 2) (sym (zeros n i))

  pub never_refused : (xs : List Turn) (ms : List ℕ) → length rs ≤ length xs → length rs ≤ length ms → (c : Refusal) → CarryCause (star_web rs v w) turn_kind turn_meaning xs ms c → ⊥
  never_refused xs ms l k _ (few_labels q) = omega arith
  never_refused xs ms l k _ (few_marks q) = omega arith
  never_refused xs ms l k _ (none_agree q) = q (replicate (length rs) Straight) (let z = length-replicate (length rs) Straight in omega arith) (plain_agree (length rs))

  module _ (n : NoThree rs) where
    crossing_from : (i s : ℕ) (p : Place) → star_joins rs v w i s ≡ Some p → JoinedSides rs i s p × Holds rs v w (4 * i + s)
    crossing_from i s p e = let f = star_from i s p e in (((cell_web_is rs n 0 (turning rs)).joins i s p).0 f.1, holds_so rs v w (4 * i + s) f.0)

    crossing_to : (i s : ℕ) (p : Place) → JoinedSides rs i s p → Holds rs v w (4 * i + s) → star_joins rs v w i s ≡ Some p
    crossing_to i s p j h = star_to i s p (holds_to rs v w (4 * i + s) h) (((cell_web_is rs n 0 (turning rs)).joins i s p).1 j)

    pub star_sound : length rs ≤ 1024 → Sound (star_web rs v w) turn_kind
    star_sound few = record {
      few_items = omega arith;
      some_side = omega arith;
      few_sides = omega arith;
      inside = λ i s p e. let j = (crossing_from i s p e).0 in (j.item, j.side);
      within = λ i s p e. let j = (crossing_from i s p e).0 in let l = j.joined.there in let k = j.entered in (omega arith, k);
      back = λ i s p e.
          let c = crossing_from i s p e in
          let j = c.0 in
          let l = j.joined.there in
          let k = j.entered in
          crossing_to p.item p.side (record { item = i; side = s })
          (record { item = omega arith; side = k; entered = j.side; joined = joined_sym rs (4 * i + s) (4 * p.item + p.side) j.joined })
          (holds_across rs v w (4 * i + s) (4 * p.item + p.side) j.joined c.1);
      still = λ i s q. refl;
    }

    -- both ends of a crossing are in the star
    ends : (i s : ℕ) (p : Place) → star_joins rs v w i s ≡ Some p → AtEdge rs v w i × AtEdge rs v w p.item
    ends i s p e =
        let c = crossing_from i s p e in
        let j = c.0 in
        let k = j.side in
        let m = j.entered in
        let a : (4 * i + s) / 4 ≡ i = omega arith in
        let b : (4 * p.item + p.side) / 4 ≡ p.item = omega arith in (
          subst (AtEdge rs v w) a (holds_at rs v w (4 * i + s) j.joined.half c.1),
          subst (AtEdge rs v w) b (holds_at rs v w (4 * p.item + p.side) j.joined.there (holds_across rs v w (4 * i + s) (4 * p.item + p.side) j.joined c.1)),
        )

    -- a way stays where it is, or goes from the star to the star
    within_star : {i j : ℕ} → Reach (star_web rs v w) i j → (i ≡ j) ⊎ (AtEdge rs v w i × AtEdge rs v w j)
    within_star here = inl refl
    within_star (on {j = j} {s = s} {p = p} r q) =
        let x = ends j s p q in
        ⊎_elim (λ z. inr (subst (AtEdge rs v w) (sym z) x.0, x.1)) (λ b. inr (b.0, x.1)) (within_star r)

    -- ways over the net are crossings
    leads : {i j : ℕ} → Reach (star_web rs v w) i j → Leads rs v w i j
    leads here = stays
    leads {i = i} (on {j = j} {s = s} {p = p} r q) =
        let c = crossing_from j s p q in
        let k = c.0.side in
        let m = c.0.entered in
        let a : (4 * j + s) / 4 ≡ j = omega arith in
        let b : (4 * p.item + p.side) / 4 ≡ p.item = omega arith in
        subst (Leads rs v w i) b (crosses (subst (Leads rs v w i) (sym a) (leads r)) c.0.joined c.1)

    reaches : {i j : ℕ} → Leads rs v w i j → Reach (star_web rs v w) i j
    reaches stays = here
    reaches (crosses {h = h} {g = g} r j b) =
        let z : 4 * (h / 4) + h % 4 ≡ h = omega arith in
        let y : 4 * (g / 4) + g % 4 ≡ g = omega arith in
        let l = j.half in
        let p : Place = record { item = g / 4; side = g % 4 } in
        on (reaches r) (crossing_to (h / 4) (h % 4) p
        (record { item = omega arith; side = omega arith; entered = omega arith; joined = subst (λ (k : ℕ). Joined rs k (4 * (g / 4) + g % 4)) (sym z) (subst (λ (k : ℕ). Joined rs h k) (sym y) j) })
        (subst (Holds rs v w) (sym z) b))

    -- a cell outside the star is a piece of its own
    alone : (i : ℕ) → i < length rs → (AtEdge rs v w i → ⊥) → FirstItem (star_web rs v w) i
    alone i l o = (l, λ j r. ⊎_elim (λ z. omega arith) (λ b. absurd (o b.0)) (within_star r))

    -- the first cell of each piece in the star
    abbrev Head : ℕ → Type 0
    Head i = AtEdge rs v w i × FirstItem (star_web rs v w) i

    -- pieces and cells of the star, together, are one for each cell and one more for each piece in the star
    heads : (m p c : ℕ) → m ≤ length rs → Counts (FirstItem (star_web rs v w)) m p → Counts (AtEdge rs v w) m c → (d : ℕ) × Counts Head m d × (p + c ≡ m + d)
    heads zero p c l none none = (0, none, refl)
    heads (suc m) p c l (one {c = p'} x f) (one {c = c'} y a) = let h = heads m p' c' (omega arith) x y in let q = h.2 in (suc h.0, one h.1 (a, f), omega arith)
    heads (suc m) p c l (one {c = p'} x f) (skip y a) = let h = heads m p' c (omega arith) x y in let q = h.2 in (h.0, skip h.1 (λ b. a b.0), omega arith)
    heads (suc m) p c l (skip x f) (one {c = c'} y a) = let h = heads m p c' (omega arith) x y in let q = h.2 in (h.0, skip h.1 (λ b. f b.1), omega arith)
    heads (suc m) p c l (skip x f) (skip y a) = absurd (f (alone m (omega arith) a))

    module _ (few : length rs ≤ 1024) (ms : List ℕ) (p c : ℕ) (acc : Agreeing (star_web rs v w) turn_kind turn_meaning ms p) (cells : Counts (AtEdge rs v w) (length rs) c) where
      -- one piece in the star: its cells reach one another
      pub linked_few : p + c ≤ length rs + 1 → Linked rs v w
      linked_few few1 s t xs xt =
          let h = heads (length rs) p c (omega arith) acc.counted cells in
          let q = h.2 in
          let fs = acc.pieced s xs.0 in
          let ft = acc.pieced t xt.0 in
          let hs : AtEdge rs v w fs.0 = ⊎_elim (λ z. subst (AtEdge rs v w) (sym z) xs) (λ b. b.0) (within_star fs.2) in
          let ht : AtEdge rs v w ft.0 = ⊎_elim (λ z. subst (AtEdge rs v w) (sym z) xt) (λ b. b.0) (within_star ft.2) in
          let z : fs.0 ≡ ft.0 = counted_one h.1 (omega arith) fs.0 ft.0 fs.1.0 ft.1.0 (hs, fs.1) (ht, ft.1) in
          leads (reach_on (subst (λ (k : ℕ). Reach (star_web rs v w) s k) z (reach_back (star_sound few) fs.2)) ft.2)

      pub few_linked : Linked rs v w → p + c ≤ length rs + 1
      few_linked k =
          let h = heads (length rs) p c (omega arith) acc.counted cells in
          let q = h.2 in
          let d : h.0 ≤ 1 = one_counted h.1 (λ a b la lb x y.
          let ab = x.1.1 b (reaches (k a b x.0 y.0)) in
          let ba = y.1.1 a (reaches (k b a y.0 x.0)) in
          omega arith) in
          omega arith
