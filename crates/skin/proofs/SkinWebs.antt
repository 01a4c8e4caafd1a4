-- A list of sides that lead to their mates is the skin net.
use Rattle.std.proofs.Common.{◌≡◌, ℕ, ◌+◌, ◌*◌, ◌/◌, ◌%◌, ◌<◌, List, length, get_or, Some, sym, refl, ap, ◌∙◌, subst, arith}
use Rattle.carry.specs.declared.net.Place.{Place}
use Rattle.carry.specs.Turns.{turn_meaning}
use Rattle.rules.specs.Readings.{reads}
use Rattle.rules.specs.Joins.{OnSkin}
use Rattle.rules.specs.Listings.{Listing}
use Rattle.rules.specs.Mates.{Mated}
use Rattle.rules.specs.SkinNets.{MatedSides, SameWay, SkinWeb}
use Rattle.rules.proofs.Listed.{rising_one}
use Rattle.mates.proofs.Returning.{place_low}
use Rattle.skin.specs.declared.side.Side.{Side}
use Rattle.skin.specs.Sides.{mate_at, turn_at}
use Rattle.skin.specs.SkinTables.{side_of, side_web}
use Rattle.skin.specs.Pairing.{TurnBetween, LeadsAll}
use Rattle.skin.proofs.Sided.{side_item, side_place, place_is, join_in, join_is, join_still, step_in}
use Rattle.skin.proofs.Paired.{at_both}

module _ {rs : List (List ℕ)} {ks : List ℕ} (xs : List Side) (skin : Listing (OnSkin rs) ks) (all : LeadsAll rs ks (3 * length ks) xs) where
  pub all_near : (k : ℕ) → k < 3 * length ks → mate_at xs k < 3 * length ks
  all_near k l = (all k l).near

  pub all_back : (k : ℕ) → k < 3 * length ks → mate_at xs (mate_at xs k) ≡ k
  all_back k l =
      let m : ℕ = mate_at xs k in
      let near : m < 3 * length ks = all_near k l in
      let next : mate_at xs m < 3 * length ks = all_near m near in
      let r = (all k l).back _ _ (all m near).mated in
      let place = r.1 in
      let item : mate_at xs m / 3 ≡ k / 3 = rising_one ks (OnSkin rs) skin _ _ (omega arith) (omega arith) r.0 in
      omega arith

  -- a mate is where the table leads
  only_mate : (k : ℕ) → k < 3 * length ks → (g d : ℕ) → Mated rs (get_or ks (k / 3) 0) (k % 3) g d → (g ≡ get_or ks (mate_at xs k / 3) 0) × (d ≡ mate_at xs k % 3)
  only_mate k l g d m =
      (all (mate_at xs k) (all_near k l)).back g d (subst (λ (x : ℕ). Mated rs (get_or ks (x / 3) 0) (x % 3) g d) (sym (all_back k l)) m)

  sides_is : (i e : ℕ) (p : Place) → MatedSides rs ks i e p → (e < 3) × (p ≡ side_of (mate_at xs (3 * i + e)))
  sides_is i e p s =
      let m : e < 3 = place_low rs (get_or ks i 0) e (get_or ks p.item 0) p.side s.mated in
      let l = s.item in
      let low : 3 * i + e < 3 * length ks = omega arith in
      let r = only_mate (3 * i + e) low _ _ (at_both (λ a b. Mated rs (get_or ks a 0) b (get_or ks p.item 0) p.side) (sym (side_item i e m)) (sym (side_place i e m)) s.mated) in
      let near = all_near (3 * i + e) low in
      (m, place_is p _ _ (rising_one ks (OnSkin rs) skin _ _ s.there (omega arith) r.0) r.1)

  sides_so : (i e : ℕ) → i < length ks → e < 3 → MatedSides rs ks i e (side_of (mate_at xs (3 * i + e)))
  sides_so i e l m =
      let low : 3 * i + e < 3 * length ks = omega arith in
      let near = all_near (3 * i + e) low in
      record {
        item = l;
        there = omega arith;
        mated = at_both (λ a b. Mated rs (get_or ks a 0) b (get_or ks (mate_at xs (3 * i + e) / 3) 0) (mate_at xs (3 * i + e) % 3)) (side_item i e m) (side_place i e m) (all (3 * i + e) low).mated;
      }

  turned : (i e : ℕ) → i < length ks → e < 3 → TurnBetween rs (get_or ks i 0) e (get_or ks (mate_at xs (3 * i + e) / 3) 0) (mate_at xs (3 * i + e) % 3) (turn_at xs (3 * i + e))
  turned i e l m =
      let low : 3 * i + e < 3 * length ks = omega arith in
      at_both (λ a b. TurnBetween rs (get_or ks a 0) b (get_or ks (mate_at xs (3 * i + e) / 3) 0) (mate_at xs (3 * i + e) % 3) (turn_at xs (3 * i + e)))
      (side_item i e m) (side_place i e m) (all (3 * i + e) low).turn

  -- the side i e and the side p read their edge in the same direction
  abbrev Same : ℕ → ℕ → Place → Type 0
  Same i e p = SameWay (reads rs (get_or ks i 0)) e (reads rs (get_or ks p.item 0)) p.side

  pub skin_web : SkinWeb rs (side_web (length ks) xs)
  skin_web = record {
    skin = ks;
    listing = skin;
    items = refl;
    sides = refl;
    joins = λ i e p. (
      λ s. let r = join_is (length ks) xs i e p s in subst (MatedSides rs ks i e) (sym r.2) (sides_so i e r.0 r.1),
      λ s. let r = sides_is i e p s in join_in (length ks) xs i e s.item r.0 ∙ ap Some (sym r.1),
    );
    closed = λ i e l m. (side_of (mate_at xs (3 * i + e)), join_in (length ks) xs i e l m);
    same = λ i e p s w.
        let r = sides_is i e p s in
        step_in (length ks) xs i e s.item r.0 ∙ ap turn_meaning ((turned i e s.item r.0).same (subst (Same i e) r.1 w));
    opposed = λ i e p s w.
        let r = sides_is i e p s in
        step_in (length ks) xs i e s.item r.0 ∙ ap turn_meaning ((turned i e s.item r.0).opposed (λ v. w (subst (Same i e) (sym r.1) v)));
    still = join_still (length ks) xs;
  }
