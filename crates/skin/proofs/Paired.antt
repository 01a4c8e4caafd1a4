-- What `mate` tells of a side of the skin, as the table keeps it.
use Rattle.std.proofs.Common.{◌≡◌, ℕ, ◌+◌, ◌*◌, ◌/◌, ◌%◌, ◌<◌, ◌≤◌, List, length, get_or, Ok, sym, ap, ◌∙◌, subst, arith}
use Rattle.carry.specs.declared.turn.Turn.{Turn}
use Rattle.carry.specs.declared.turn.Turn.TheVariants.{Straight, Turned}
use Rattle.refusal.specs.declared.Refusal.{Refusal}
use Rattle.refusal.specs.Causes.{First}
use Rattle.rules.specs.Readings.{reads}
use Rattle.rules.specs.Joins.{OnSkin}
use Rattle.rules.specs.Mates.{Runs, Mated, MateCause}
use Rattle.halves.specs.declared.edge.Edge.{Edge}
use Rattle.mates.specs.declared.side.EdgeSide.{EdgeSide}
use Rattle.mates.specs.Mating.{LeadsBack}
use Rattle.mates.proofs.EdgePlaces.{runs_one}
use Rattle.mates.proofs.Refused.{no_mate_cause}
use Rattle.mates.proofs.Returning.{mate_skin, mate_place_low}
use Rattle.skin.specs.Pairing.{SkinOf, Numbered, TurnBetween, Leads}
use Rattle.skin.proofs.Rising.{few_below}
use Rattle.skin.proofs.Sided.{side_item, side_place}

pub at_both : (P : ℕ → ℕ → Type 0) {a b c d : ℕ} → a ≡ b → c ≡ d → P a c → P b d
at_both P {b = b} {c = c} e f x = subst (P b) f (subst (λ (y : ℕ). P y c) e x)

-- what is mated is on the skin, at one of its edge places
pub mated_low : {rs : List (List ℕ)} {h e m d : ℕ} → Mated rs h e m d → OnSkin rs m × (d < 3)
mated_low {rs = rs} {h = h} {e = e} {m = m} {d = d} r = (mate_skin rs h e m d r, mate_place_low rs h e m d r)

-- an edge of a skin triangle has a mate
pub mate_told : (rs : List (List ℕ)) (h e : ℕ) (c : Refusal) → OnSkin rs h → e < 3 → First (MateCause rs h e) c → ⊥
mate_told rs h e c s l f = no_mate_cause rs h e (omega arith) s c f.applies

-- what is mated with the mate is the side itself
only_back : (rs : List (List ℕ)) (h e : ℕ) (found : EdgeSide) → OnSkin rs found.half_face → found.place < 3 → LeadsBack rs h e (Ok found)
    → (g d : ℕ) → Mated rs found.half_face found.place g d → (g ≡ h) × (d ≡ e)
only_back rs h e found s l back g d m =
    let r = back (Ok (record { half_face = g; place = d })) (no_mate_cause rs found.half_face found.place (omega arith) s, m) in
    let f : record { half_face = g; place = d } ≡ record { half_face = h; place = e } = cc in
    (ap (λ (x : EdgeSide). x.half_face) f, ap (λ (x : EdgeSide). x.place) f)

-- the turn between two edges is that between the sides that read them
pub turn_so : (rs : List (List ℕ)) (h e g d : ℕ) (a b : Edge) (t : Turn) → Runs (reads rs h) e a.from a.to → Runs (reads rs g) d b.from b.to
    → (a ≡ b → t ≡ Turned) → ((a ≡ b → ⊥) → t ≡ Straight) → TurnBetween rs h e g d t
turn_so rs h e g d a b t here there same opposed = record {
  same = λ w.
      let p = runs_one (reads rs h) e _ _ _ _ w.2 here in let q = runs_one (reads rs g) d _ _ _ _ w.3 there in
      let from : a.from ≡ b.from = sym p.0 ∙ q.0 in let to : a.to ≡ b.to = sym p.1 ∙ q.1 in
      let edge : ℕ → ℕ → Edge = λ x y. record { from = x; to = y } in
      same (ap (λ (x : ℕ). edge x a.to) from ∙ ap (edge b.from) to);
  opposed = λ w. opposed (λ s. w (a.from, a.to, here, subst (λ (x : Edge). Runs (reads rs g) d x.from x.to) (sym s) there));
}

module _ {rs : List (List ℕ)} {ks : List ℕ} (skin : SkinOf rs ks) where
  pub skin_low : (i : ℕ) → i < length ks → get_or ks i 0 < 4096
  skin_low i l = let few = skin.few in let half = (skin.listing.sound i l).0 in omega arith

  pub skin_few : length ks ≤ 4096
  skin_few = let few = skin.few in few_below skin.listing 4096 (λ h s. let half = s.0 in omega arith)

  -- the number of a side fits its type
  pub side_low : (i d : ℕ) → i < length ks → d < 3 → 3 * i + d < 12288
  side_low i d l m = let few = skin_few in omega arith

  pub leads_so : (k i : ℕ) (found : EdgeSide) (t : Turn) → (i < length ks) × (get_or ks i 0 ≡ found.half_face) → Mated rs (get_or ks (k / 3) 0) (k % 3) found.half_face found.place
      → LeadsBack rs (get_or ks (k / 3) 0) (k % 3) (Ok found) → TurnBetween rs (get_or ks (k / 3) 0) (k % 3) found.half_face found.place t
      → Leads rs ks k (record { mate = 3 * i + found.place; turn = t })
  leads_so k i found t item m back turn =
      let h : ℕ = get_or ks (k / 3) 0 in let e : ℕ = k % 3 in
      let s = (mated_low m).0 in
      let low = (mated_low m).1 in
      let fits = item.0 in
      let x : ℕ = 3 * i + found.place in
      let half : get_or ks (x / 3) 0 ≡ found.half_face = ap (λ (j : ℕ). get_or ks j 0) (side_item i found.place low) ∙ item.1 in
      let place : x % 3 ≡ found.place = side_place i found.place low in
      record {
        near = omega arith;
        mated = at_both (Mated rs h e) (sym half) (sym place) m;
        back = λ g d n. only_back rs h e found s low back g d (at_both (λ a b. Mated rs a b g d) half place n);
        turn = at_both (λ a b. TurnBetween rs h e a b t) (sym half) (sym place) turn;
      }

module _ {rs : List (List ℕ)} {ks items : List ℕ} (skin : SkinOf rs ks) (numbered : Numbered ks items) where
  -- the item of a skin triangle
  pub item_of : (m : ℕ) → OnSkin rs m → (get_or items m 0 < length ks) × (get_or ks (get_or items m 0) 0 ≡ m)
  item_of m s =
      let w = skin.listing.whole m s in
      let e : get_or items m 0 ≡ w.0 = ap (λ (x : ℕ). get_or items x 0) (sym w.2) ∙ numbered.item w.0 w.1 in
      (subst (λ (x : ℕ). x < length ks) (sym e) w.1, ap (λ (x : ℕ). get_or ks x 0) e ∙ w.2)
