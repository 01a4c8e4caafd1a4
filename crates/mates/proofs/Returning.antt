-- A mate is one, and the way back from it leads home.
use Rattle.std.proofs.Common.{◌≡◌, ℕ, ◌<◌, List, Ok, Err, Result, sym, ap, subst, inl, inr, ⊎_elim, arith}
use Rattle.refusal.specs.declared.Refusal.{Refusal}
use Rattle.rules.specs.Readings.{reads}
use Rattle.rules.specs.Joins.{Half, Joined, OnSkin, LawfulRows}
use Rattle.rules.specs.Mates.{EdgeAt, Beside, Mate, Mated}
use Rattle.rules.specs.Mates.Mate.{arrives, crosses}
use Rattle.rules.proofs.Opposites.{joined_sym}
use Rattle.mates.specs.declared.side.EdgeSide.{EdgeSide}
use Rattle.mates.specs.Edges.{Spans}
use Rattle.mates.specs.Mating.{TellsMate}
use Rattle.mates.proofs.EdgePlaces.{edge_swap, edge_low, edge_one, runs_one, runs_spans}
use Rattle.mates.proofs.Steps.{spans_beside, spans_across, beside_sym, beside_one, reads_apart}
use Rattle.mates.proofs.Refused.{no_mate_cause}

beside_swap : (rs : List (List ℕ)) (u v h g : ℕ) → Beside rs u v h g → Beside rs v u h g
beside_swap rs u v h g b = record { cell = b.cell; other = b.other; edge = (b.edge.0, edge_swap (reads rs g) b.edge.0 u v b.edge.1) }

mate_swap : (rs : List (List ℕ)) (u v h m : ℕ) → Mate rs u v h m → Mate rs v u h m
mate_swap rs u v h m (arrives b o) = arrives (beside_swap rs u v h m b) o
mate_swap rs u v h m (crosses b j q) = crosses (beside_swap rs u v h _ b) j (mate_swap rs u v _ m q)

-- WHERE A MATE STANDS

pub mate_open : (rs : List (List ℕ)) (u v h m : ℕ) → Mate rs u v h m → OnSkin rs m
mate_open rs u v h m (arrives b o) = o
mate_open rs u v h m (crosses b j q) = mate_open rs u v _ m q

pub mate_spans : (rs : List (List ℕ)) (u v h m : ℕ) → (u ≡ v → ⊥) → Mate rs u v h m → Spans (reads rs m) u v
mate_spans rs u v h m n (arrives b o) = spans_beside rs u v _ m n b
mate_spans rs u v h m n (crosses b j q) = mate_spans rs u v _ m n q

module _ (rs : List (List ℕ)) (h e m d : ℕ) (w : Mated rs h e m d) where
  pub mate_skin : OnSkin rs m
  mate_skin = mate_open rs w.from w.to h m w.mate

  pub place_low : e < 3
  place_low = edge_low (reads rs h) e w.from w.to (inl w.here)

  pub mate_place_low : d < 3
  mate_place_low = edge_low (reads rs m) d w.from w.to w.there

-- THE WAY BACK

-- the walk to h, turned round, leads from whatever is beside h to x
turned_round : (rs : List (List ℕ)) (u v x h m : ℕ) → Spans (reads rs h) u v → ((g : ℕ) → Beside rs u v g h → Mate rs u v g x) → Mate rs u v h m → Mate rs u v m x
turned_round rs u v x h m s k (arrives b o) = k m (beside_sym rs u v h m s b)
turned_round rs u v x h m s k (crosses b j q) =
    turned_round rs u v x _ m (spans_across rs u v _ _ j (spans_beside rs u v h _ s.2 b)) (λ g c. crosses c (joined_sym rs _ _ j) (k _ (beside_sym rs u v h _ s b))) q

mate_back : (rs : List (List ℕ)) (u v h m : ℕ) → OnSkin rs h → Spans (reads rs h) u v → Mate rs u v h m → Mate rs u v m h
mate_back rs u v h m o s q = turned_round rs u v h h m s (λ g b. arrives b o) q

module _ (rs : List (List ℕ)) (law : LawfulRows rs) where
  joined_move : {g k o : ℕ} → g ≡ k → Joined rs k o → Joined rs g o
  joined_move {g} {k} {o} e j = subst (λ (z : ℕ). Joined rs z o) (sym e) j

  mate_one : (u v h m w : ℕ) → Half rs h → Spans (reads rs h) u v → Mate rs u v h m → Mate rs u v h w → m ≡ w
  mate_one u v h m w l s (arrives b o) (arrives c p) = beside_one rs law u v h m w l s b c
  mate_one u v h m w l s (arrives b o) (crosses c j q) = absurd (o.1 _ (joined_move (beside_one rs law u v h m _ l s b c) j))
  mate_one u v h m w l s (crosses b j q) (arrives c p) = absurd (p.1 _ (joined_move (beside_one rs law u v h w _ l s c b) j))
  mate_one u v h m w l s (crosses b j q) (crosses c i r) =
      let e = beside_one rs law u v h _ _ l s b c in
      let f = law.no_three _ _ _ j (joined_move e i) in
      mate_one u v _ m w j.there (spans_across rs u v _ _ j (spans_beside rs u v h _ s.2 b)) q (subst (λ (z : ℕ). Mate rs u v z w) (sym f) r)

  pub mated_spans : (h e m d : ℕ) → OnSkin rs h → (w : Mated rs h e m d) → Spans (reads rs h) w.from w.to
  mated_spans h e m d o w = runs_spans (reads rs h) e w.from w.to (reads_apart rs law h o.0) w.here

  pub mated_back : (h e m d : ℕ) → OnSkin rs h → Mated rs h e m d → Mated rs m d h e
  mated_back h e m d o w =
      let q = mate_back rs w.from w.to h m o (mated_spans h e m d o w) w.mate in
      ⊎_elim
      (λ p. record { from = w.from; to = w.to; here = p; mate = q; there = inl w.here })
      (λ p. record { from = w.to; to = w.from; here = p; mate = mate_swap rs w.from w.to m h q; there = inr w.here })
      w.there

  pub mated_one : (h e m d k c : ℕ) → OnSkin rs h → Mated rs h e m d → Mated rs h e k c → (m ≡ k) × (d ≡ c)
  mated_one h e m d k c o w z =
      let r = runs_one (reads rs h) e w.from w.to z.from z.to w.here z.here in
      let s = mated_spans h e m d o w in
      let q = subst (λ (a : ℕ). Mate rs a w.to h k) (sym r.0) (subst (λ (a : ℕ). Mate rs z.from a h k) (sym r.1) z.mate) in
      let f : m ≡ k = mate_one w.from w.to h m k o.0 s w.mate q in
      let t = subst (λ (a : ℕ). EdgeAt (reads rs a) c w.from w.to) (sym f)
      (subst (λ (a : ℕ). EdgeAt (reads rs k) c a w.to) (sym r.0) (subst (λ (a : ℕ). EdgeAt (reads rs k) c z.from a) (sym r.1) z.there)) in
      (f, edge_one (reads rs m) w.from w.to (reads_apart rs law m (mate_skin rs h e m d w).0) d c w.there t)

  same_side : (m d k c : ℕ) → m ≡ k → d ≡ c → ◌≡◌ {A = EdgeSide} (record { half_face = m; place = d }) (record { half_face = k; place = c })
  same_side m d k c p q = cc

  pub leads_back : (h e m d : ℕ) → OnSkin rs h → Mated rs h e m d → (r : Result EdgeSide Refusal) → TellsMate rs m d r → r ≡ Ok (record { half_face = h; place = e })
  leads_back h e m d o w (Ok k) t =
      let p = mated_one m d k.half_face k.place h e (mate_skin rs h e m d w) t.1 (mated_back h e m d o w) in
      ap Ok (same_side k.half_face k.place h e p.0 p.1)
  leads_back h e m d o w (Err f) t =
      let l = mate_place_low rs h e m d w in
      absurd (no_mate_cause rs m d (omega arith) (mate_skin rs h e m d w) f t.applies)
