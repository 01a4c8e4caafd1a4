-- The cells at an edge, by computation: which they are, and whether the edge is sound.
use Rattle.std.proofs.Common.{◌≡◌, ℕ, zero, suc, ◌+◌, ◌*◌, ◌/◌, ◌<◌, Bool, true, not, ◌&&◌, ◌||◌, eqb, ltb, List, [], length, get_or, sym, subst, ⊎_elim, arith}
use Rattle.std.proofs.lemmas.Bool.{and_parts, and_from, or_cases, both_ways, ltb-true, lt-ltb, eqb-true, not-true}
use Rattle.rules.specs.Joins.{Joined}
use Rattle.rules.specs.Listings.{Listing}
use Rattle.rules.specs.Questions.{AtEdge}
use Rattle.rules.specs.Soundness.{Holds, Leads, EdgeSound}
use Rattle.rules.specs.Soundness.Leads.{stays, crosses}
use Rattle.rules.specs.Tests.{on, picks}
use Rattle.rules.specs.NetTests.{meets, lowest, opposite, holds}
use Rattle.rules.proofs.Corners.{in_to, in_from}
use Rattle.rules.proofs.Listed.{listed_as}
use Rattle.rules.proofs.Opposites.{opposite_joined, joined_sym}
use Rattle.rules.proofs.Starred.{holds_so, holds_to, holds_at}
use Rattle.cases.proofs.Finite.{every, every_at, some, some_at, implies, implied, has, has_at, lists_number, same_list, same_list_lem}
use Rattle.cases.proofs.Halves.{joined_meets}

-- cell t has v and w
unfoldable pub at_edge : List (List ℕ) → ℕ → ℕ → ℕ → Bool
at_edge rs v w t = ltb t (length rs) && (on (get_or rs t []) 4 v && on (get_or rs t []) 4 w)

at_so : (rs : List (List ℕ)) (v w t : ℕ) → at_edge rs v w t ≡ true → AtEdge rs v w t
unfolding at_edge
at_so rs v w t p =
    let a = and_parts (ltb t (length rs)) _ p in
    let b = and_parts (on (get_or rs t []) 4 v) _ a.1 in
    (ltb-true t (length rs) a.0, in_from (get_or rs t []) v b.0, in_from (get_or rs t []) w b.1)

at_to : (rs : List (List ℕ)) (v w t : ℕ) → AtEdge rs v w t → at_edge rs v w t ≡ true
unfolding at_edge
at_to rs v w t a = and_from _ _ (lt-ltb t (length rs) a.0) (and_from _ _ (in_to (get_or rs t []) v a.1) (in_to (get_or rs t []) w a.2))

-- ks are the cells at the edge
unfoldable pub lists_edge : List (List ℕ) → ℕ → ℕ → List ℕ → Bool
lists_edge rs v w ks = same_list (picks (at_edge rs v w) (length rs)) ks

pub lists_edge_lem : (rs : List (List ℕ)) (v w : ℕ) (ks : List ℕ) → lists_edge rs v w ks ≡ true → Listing (AtEdge rs v w) ks
unfolding lists_edge
lists_edge_lem rs v w ks e =
    subst (Listing (AtEdge rs v w)) (same_list_lem (picks (at_edge rs v w) (length rs)) ks e)
    (listed_as (at_edge rs v w) (length rs) (AtEdge rs v w) (λ t l. at_so rs v w t) (λ t a. (a.0, at_to rs v w t a)))

-- AN EDGE THAT IS NOT SOUND

module _ (rs : List (List ℕ)) (v w : ℕ) (cut : List ℕ) where
  -- what h leads to from a cell of the cut is in it
  unfoldable pub stays_in : ℕ → Bool
  stays_in h = implies (lists_number cut (h / 4) && holds rs v w h) (every (4 * length rs) (λ g. implies (meets rs h g) (lists_number cut (g / 4))))

  -- no crossing leads out, and one cell at the edge is in the cut, and another is not
  unfoldable pub cuts_edge : Bool
  cuts_edge =
      every (4 * length rs) stays_in &&
      (some (length rs) (λ t. at_edge rs v w t && lists_number cut t) && some (length rs) (λ t. at_edge rs v w t && not (lists_number cut t)))

  kept_over : every (4 * length rs) stays_in ≡ true → (h g : ℕ) → Joined rs h g → Holds rs v w h → lists_number cut (h / 4) ≡ true → lists_number cut (g / 4) ≡ true
  unfolding stays_in
  kept_over e h g j b c =
      let P : ℕ → Bool = λ g. implies (meets rs h g) (lists_number cut (g / 4)) in
      let a = implied (lists_number cut (h / 4) && holds rs v w h) (every (4 * length rs) P) (every_at (4 * length rs) stays_in e h j.half) (and_from _ _ c (holds_to rs v w h b)) in
      implied (meets rs h g) (lists_number cut (g / 4)) (every_at (4 * length rs) P a g j.there) (joined_meets rs h g j)

  kept : every (4 * length rs) stays_in ≡ true → {s t : ℕ} → Leads rs v w s t → lists_number cut s ≡ true → lists_number cut t ≡ true
  kept e stays m = m
  kept e (crosses {h = h} {g = g} r j b) m = kept_over e h g j b (kept e r m)

  pub cut_unsound : cuts_edge ≡ true → EdgeSound rs v w → ⊥
  unfolding cuts_edge
  cut_unsound e sound =
      let a = and_parts (every (4 * length rs) stays_in) _ e in
      let b = and_parts (some (length rs) (λ t. at_edge rs v w t && lists_number cut t)) _ a.1 in
      let s = some_at (length rs) (λ t. at_edge rs v w t && lists_number cut t) b.0 in
      let t = some_at (length rs) (λ t. at_edge rs v w t && not (lists_number cut t)) b.1 in
      let x = and_parts (at_edge rs v w s.0) _ s.2 in
      let y = and_parts (at_edge rs v w t.0) _ t.2 in
      both_ways (lists_number cut t.0) (not-true _ y.1) (kept a.0 (sound s.0 t.0 (at_so rs v w s.0 x.0) (at_so rs v w t.0 y.0)) x.1)

-- AN EDGE THAT IS SOUND

module _ (rs : List (List ℕ)) (v w : ℕ) where
  -- h, which has the edge, leads to a cell before t
  unfoldable pub leads_before : ℕ → ℕ → Bool
  leads_before t h = (ltb h (4 * length rs) && holds rs v w h) && has (opposite rs h) (λ g. ltb (g / 4) t)

  -- a cell t of the edge is f, or leads to one before it
  unfoldable pub hangs : ℕ → ℕ → Bool
  hangs f t = implies (at_edge rs v w t) (eqb t f || some 4 (λ s. leads_before t (4 * t + s)))

  unfoldable pub links_edge : Bool
  links_edge = has (lowest (at_edge rs v w) (length rs)) (λ f. every (length rs) (hangs f))

  leads_on : {a b c : ℕ} → Leads rs v w a b → Leads rs v w b c → Leads rs v w a c
  leads_on r stays = r
  leads_on r (crosses q j h) = crosses (leads_on r q) j h

  leads_back : {a b : ℕ} → Leads rs v w a b → Leads rs v w b a
  leads_back stays = stays
  leads_back (crosses {h = h} {g = g} r j b) = leads_on (crosses stays (joined_sym rs h g j) ((j.same v).0 b.0, (j.same w).0 b.1)) (leads_back r)

  -- a cell that leads to one before it
  one_before : (t h : ℕ) → h / 4 ≡ t → leads_before t h ≡ true → (u : ℕ) × (u < t) × AtEdge rs v w u × Leads rs v w t u
  unfolding leads_before
  one_before t h e p =
      let a = and_parts (ltb h (4 * length rs) && holds rs v w h) _ p in
      let b = and_parts (ltb h (4 * length rs)) _ a.0 in
      let d = has_at (opposite rs h) (λ g. ltb (g / 4) t) a.1 in
      let g = d.0 in
      let j = opposite_joined rs h g (ltb-true h (4 * length rs) b.0) d.1 in
      let c = holds_so rs v w h b.1 in
      (g / 4, ltb-true (g / 4) t d.2, holds_at rs v w g j.there ((j.same v).0 c.0, (j.same w).0 c.1), crosses (subst (Leads rs v w t) (sym e) stays) j c)

  to_first : (f : ℕ) → every (length rs) (hangs f) ≡ true → (m t : ℕ) → t < m → AtEdge rs v w t → Leads rs v w t f
  unfolding hangs
  to_first f e zero t l a = absurd (omega arith)
  to_first f e (suc m) t l a =
      ⊎_elim
      (λ q. subst (Leads rs v w t) (eqb-true t f q) stays)
      (λ q. let s = some_at 4 (λ s. leads_before t (4 * t + s)) q in
      let k = s.1 in
      let u = one_before t (4 * t + s.0) (omega arith) s.2 in
      let n = u.1 in
      leads_on u.3 (to_first f e m u.0 (omega arith) u.2))
      (or_cases (eqb t f) _ (implied (at_edge rs v w t) (eqb t f || some 4 (λ s. leads_before t (4 * t + s))) (every_at (length rs) (hangs f) e t a.0) (at_to rs v w t a)))

  pub links_sound : links_edge ≡ true → EdgeSound rs v w
  unfolding links_edge
  links_sound e s t a b =
      let d = has_at (lowest (at_edge rs v w) (length rs)) (λ f. every (length rs) (hangs f)) e in
      leads_on (to_first d.0 d.2 (suc s) s (omega arith) a) (leads_back (to_first d.0 d.2 (suc t) t (omega arith) b))
