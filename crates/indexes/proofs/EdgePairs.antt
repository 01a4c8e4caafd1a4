-- Edges by their two vertices in rising order, and the half-faces that are offered for them.
use Rattle.std.proofs.Common.{◌≡◌, ℕ, ◌+◌, ◌<◌, ◌≤◌, true, ◌⊎◌, ◌↔◌, List, get_or, Some, sym, refl, ap, ◌∙◌, subst, inl, inr, ⊎_elim, arith}
use Rattle.std.proofs.lemmas.Bool.{cases_lt}
use Rattle.rules.specs.Readings.{Reading, reads, listed, On}
use Rattle.rules.specs.Joins.{Half, OnSkin}
use Rattle.index.specs.declared.entry.Entry.{Entry}
use Rattle.index.specs.declared.keys.Pair.{Pair}
use Rattle.index.specs.Keys.{pair_order}
use Rattle.indexes.specs.declared.rule.Side.{Side}
use Rattle.indexes.specs.Rule.{Stands}
use Rattle.indexes.specs.Edges.{EdgeOf, OnEdge, RatherHalf}
use Rattle.indexes.specs.Gathered.{EdgesBefore, Before, Chosen, Offered}
use Rattle.index.specs.KeyLemmas.{pair_total}
use Rattle.indexes.proofs.Offers.{Added, offered, gathered_as}
use Rattle.indexes.proofs.Rules.{rather_itself, rather_chain, rather_as}

-- ---- the half-face that is chosen
-- a side says rightly whether its half-face is open
abbrev Right : List (List ℕ) → Side → Type 0
Right rs s = (s.is_open ≡ true) ↔ OnSkin rs s.half_face

pub chosen_side : (rs : List (List ℕ)) (g h : ℕ) (s t r : Side) → s.half_face ≡ g → (s.is_open ≡ true) ↔ OnSkin rs g → t.half_face ≡ h → (t.is_open ≡ true) ↔ OnSkin rs h
    → Stands s t r → Chosen (RatherHalf rs) (Some g) h r.half_face
chosen_side rs g h s t r sg sk th tk st =
    let right-s : Right rs s = subst (λ (z : ℕ). (s.is_open ≡ true) ↔ OnSkin rs z) (sym sg) sk in
    let right-t : Right rs t = subst (λ (z : ℕ). (t.is_open ≡ true) ↔ OnSkin rs z) (sym th) tk in
    let right-r : Right rs r = ⊎_elim (λ (e : r ≡ s). subst (Right rs) (sym e) right-s) (λ (e : r ≡ t). subst (Right rs) (sym e) right-t) st.one in (
      ⊎_elim (λ (e : r ≡ s). inl (ap (λ (z : Side). z.half_face) e ∙ sg)) (λ (e : r ≡ t). inr (ap (λ (z : Side). z.half_face) e ∙ th)) st.one,
      subst (RatherHalf rs r.half_face) sg (rather_as _ _ _ _ _ _ right-r right-s st.first),
      subst (RatherHalf rs r.half_face) th (rather_as _ _ _ _ _ _ right-r right-t st.second),
    )

-- ---- the three edges of a reading
-- k has the vertices v and w, in rising order
pub record Pairs (v w : ℕ) (k : Pair) : Type 0 where
  pub low : k.first < k.second
  pub both : ((k.first ≡ v) × (k.second ≡ w)) ⊎ ((k.first ≡ w) × (k.second ≡ v))

edge_of : (a : Reading) (v w : ℕ) → On v a → On w a → (k : Pair) → Pairs v w k → EdgeOf a k
edge_of a v w p q k m =
    ⊎_elim
    (λ (e : (k.first ≡ v) × (k.second ≡ w)). record { low = m.low; one = subst (λ (z : ℕ). On z a) (sym e.0) p; other = subst (λ (z : ℕ). On z a) (sym e.1) q })
    (λ (e : (k.first ≡ w) × (k.second ≡ v)). record { low = m.low; one = subst (λ (z : ℕ). On z a) (sym e.0) q; other = subst (λ (z : ℕ). On z a) (sym e.1) p })
    m.both

same_parts : (k q : Pair) → k.first ≡ q.first → k.second ≡ q.second → k ≡ q
same_parts k q e f = ap (λ (x : ℕ). record { first = x; second = k.second }) e ∙ ap (λ (x : ℕ). record { first = q.first; second = x }) f

one_pair : (v w : ℕ) (k q : Pair) → Pairs v w k → Pairs v w q → k ≡ q
one_pair v w k q m n =
    let l = m.low in let o = n.low in
    ⊎_elim
    (λ (e : (k.first ≡ v) × (k.second ≡ w)). let a = e.0 in let b = e.1 in ⊎_elim
    (λ (f : (q.first ≡ v) × (q.second ≡ w)). let c = f.0 in let d = f.1 in same_parts k q (omega arith) (omega arith))
    (λ (f : (q.first ≡ w) × (q.second ≡ v)). let c = f.0 in let d = f.1 in absurd (omega arith))
    n.both)
    (λ (e : (k.first ≡ w) × (k.second ≡ v)). let a = e.0 in let b = e.1 in ⊎_elim
    (λ (f : (q.first ≡ v) × (q.second ≡ w)). let c = f.0 in let d = f.1 in absurd (omega arith))
    (λ (f : (q.first ≡ w) × (q.second ≡ v)). let c = f.0 in let d = f.1 in same_parts k q (omega arith) (omega arith))
    n.both)
    m.both

-- i, j and k are the edges of the reading a
pub record ThreeEdges (a : Reading) (i j k : Pair) : Type 0 where
  pub pq : Pairs a.p a.q i
  pub qr : Pairs a.q a.r j
  pub pr : Pairs a.p a.r k

-- the reading as a list of three numbers
pub three_edges_as : (a : Reading) (vs : List ℕ) (i j k : Pair) → vs ≡ listed a → Pairs (get_or vs 0 0) (get_or vs 1 0) i → Pairs (get_or vs 1 0) (get_or vs 2 0) j → Pairs (get_or vs 0 0) (get_or vs 2 0) k → ThreeEdges a i j k
three_edges_as a vs i j k e x y z =
    subst (λ (l : List ℕ). ThreeEdges (record { p = get_or l 0 0; q = get_or l 1 0; r = get_or l 2 0 }) i j k) e (record { pq = x; qr = y; pr = z })

module _ (a : Reading) (i j k : Pair) (three : ThreeEdges a i j k) where
  edge_i : EdgeOf a i
  edge_i = edge_of a a.p a.q (inl refl) (inr (inl refl)) i three.pq

  edge_j : EdgeOf a j
  edge_j = edge_of a a.q a.r (inr (inl refl)) (inr (inr refl)) j three.qr

  edge_k : EdgeOf a k
  edge_k = edge_of a a.p a.r (inl refl) (inr (inr refl)) k three.pr

  -- there is no other
  no_other : (q : Pair) → EdgeOf a q → (q ≡ i) ⊎ ((q ≡ j) ⊎ (q ≡ k))
  no_other q m =
      let l = m.low in
      ⊎_elim
      (λ (e : q.first ≡ a.p). ⊎_elim
      (λ (f : q.second ≡ a.p). absurd (omega arith))
      (⊎_elim
      (λ (f : q.second ≡ a.q). inl (one_pair a.p a.q q i (record { low = l; both = inl (e, f) }) three.pq))
      (λ (f : q.second ≡ a.r). inr (inr (one_pair a.p a.r q k (record { low = l; both = inl (e, f) }) three.pr))))
      m.other)
      (⊎_elim
      (λ (e : q.first ≡ a.q). ⊎_elim
      (λ (f : q.second ≡ a.p). inl (one_pair a.p a.q q i (record { low = l; both = inr (e, f) }) three.pq))
      (⊎_elim
      (λ (f : q.second ≡ a.q). absurd (omega arith))
      (λ (f : q.second ≡ a.r). inr (inl (one_pair a.q a.r q j (record { low = l; both = inl (e, f) }) three.qr))))
      m.other)
      (λ (e : q.first ≡ a.r). ⊎_elim
      (λ (f : q.second ≡ a.p). inr (inr (one_pair a.p a.r q k (record { low = l; both = inr (e, f) }) three.pr)))
      (⊎_elim
      (λ (f : q.second ≡ a.q). inr (inl (one_pair a.q a.r q j (record { low = l; both = inr (e, f) }) three.qr)))
      (λ (f : q.second ≡ a.r). absurd (omega arith)))
      m.other))
      m.one

-- ---- one half-face offered for its three edges
module _ (rs : List (List ℕ)) (h : ℕ) (half : Half rs h) (i j k : Pair) (three : ThreeEdges (reads rs h) i j k) where
  abbrev itself : (x : ℕ) → RatherHalf rs x x
  itself x = rather_itself (OnSkin rs x) x

  abbrev chain : (x y z : ℕ) → RatherHalf rs x y → RatherHalf rs y z → RatherHalf rs x z
  chain x y z = rather_chain (OnSkin rs x) (OnSkin rs y) (OnSkin rs z) x y z

  abbrev Had : Pair → ℕ → Type 0
  Had = Before (OnEdge rs) h

  abbrev One : Pair → ℕ → Type 0
  One = Added pair_total Had (RatherHalf rs) itself chain i h

  abbrev Two : Pair → ℕ → Type 0
  Two = Added pair_total One (RatherHalf rs) itself chain j h

  abbrev Three : Pair → ℕ → Type 0
  Three = Added pair_total Two (RatherHalf rs) itself chain k h

  here : (z : Pair) → EdgeOf (reads rs h) z → (q : Pair) (g : ℕ) → (q ≡ z) × (g ≡ h) → Before (OnEdge rs) (h + 1) q g
  here z m q g p = let e = p.1 in (subst (OnEdge rs q) (sym p.1) (subst (λ (y : Pair). OnEdge rs y h) (sym p.0) (half, m)), omega arith)

  to : (q : Pair) (g : ℕ) → Three q g → Before (OnEdge rs) (h + 1) q g
  to q g =
      ⊎_elim
      (⊎_elim
      (⊎_elim (λ (p : Had q g). let l = p.1 in (p.0, omega arith)) (here i (edge_i (reads rs h) i j k three) q g))
      (here j (edge_j (reads rs h) i j k three) q g))
      (here k (edge_k (reads rs h) i j k three) q g)

  from : (q : Pair) (g : ℕ) → Before (OnEdge rs) (h + 1) q g → Three q g
  from q g p =
      let l = p.1 in
      ⊎_elim
      (λ (m : g < h). inl (inl (inl (p.0, m))))
      (λ (m : h ≤ g).
      let e : g ≡ h = omega arith in
      ⊎_elim
      (λ (f : q ≡ i). inl (inl (inr (f, e))))
      (⊎_elim (λ (f : q ≡ j). inl (inr (f, e))) (λ (f : q ≡ k). inr (f, e)))
      (no_other (reads rs h) i j k three q (subst (OnEdge rs q) e p.0).1))
      (cases_lt g h)

  pub passed : (es fs gs hs : List (Entry Pair)) → EdgesBefore rs h es
      → Offered pair_order (RatherHalf rs) i h es fs → Offered pair_order (RatherHalf rs) j h fs gs → Offered pair_order (RatherHalf rs) k h gs hs
      → EdgesBefore rs (h + 1) hs
  passed es fs gs hs a x y z =
      gathered_as pair_total Three (Before (OnEdge rs) (h + 1)) (RatherHalf rs) to from hs
      (offered pair_total Two (RatherHalf rs) itself chain k h gs hs
      (offered pair_total One (RatherHalf rs) itself chain j h fs gs
      (offered pair_total Had (RatherHalf rs) itself chain i h es fs a x) y) z)
