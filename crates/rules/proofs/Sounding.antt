-- Soundness from the stars that are told, and which cause of a question about it comes first.
use Rattle.std.proofs.Common.{◌≡◌, ℕ, ◌<◌, ◌≤◌, List, [], length, get_or, sym, ap, ◌∙◌, subst, arith}
use Rattle.refusal.specs.declared.Refusal.{Refusal}
use Rattle.refusal.specs.declared.Refusal.TheVariants.{VertexTooHigh, VerticesEqual, InNoCell}
use Rattle.refusal.specs.Numbers.{number_of}
use Rattle.refusal.specs.Causes.{First, NoCause}
use Rattle.rules.specs.Rows.{corner}
use Rattle.rules.specs.Joins.{LawfulRows}
use Rattle.rules.specs.Listings.{Listing, Many}
use Rattle.rules.specs.Questions.{AtVertex, AtEdge, StarCause, EdgeStarCause}
use Rattle.rules.specs.Questions.StarCause.{high as star-high, short as star-short}
use Rattle.rules.specs.Questions.EdgeStarCause.{high as edge-high, high_other as edge-high-other, equal as edge-equal, short as edge-short}
use Rattle.rules.specs.Soundness.{Edge, EdgeSound, EdgeSoundCause, VertexSoundCause}
use Rattle.rules.specs.Soundness.EdgeSoundCause.{high, high_other, equal, nowhere}
use Rattle.rules.specs.Soundness.VertexSoundCause.{high as v_high, nowhere as v-nowhere}
use Rattle.rules.proofs.Counted.{counted_le}
use Rattle.rules.proofs.Listed.{listing_as}
use Rattle.rules.proofs.Starred.{star_counts}

-- the cells at a vertex, as those that have it twice
pub many_twice : (rs : List (List ℕ)) (v n : ℕ) → Many (AtVertex rs v) n → Many (AtEdge rs v v) n
many_twice rs v n m = (m.0, listing_as (AtVertex rs v) (AtEdge rs v v) m.0 (λ t a. (a.0, a.1, a.1)) (λ t a. (a.0, a.1)) m.1, m.2)

-- there are no more of them than rows
pub star_fits : (rs : List (List ℕ)) (v w n : ℕ) → Many (AtEdge rs v w) n → n ≤ length rs
star_fits rs v w n m = counted_le (star_counts rs v w n m)

none_listed : (P : ℕ → Type 0) (ks : List ℕ) → Listing P ks → 0 ≡ length ks → (t : ℕ) → P t → ⊥
none_listed P ks a z t p = let w = a.whole t p in let l = w.1 in omega arith

some_listed : (P : ℕ → Type 0) (n : ℕ) → Many P n → (n ≡ 0 → ⊥) → (t : ℕ) × P t
some_listed P n m ne = (get_or m.0 0 0, m.1.sound 0 (omega (arith, m.2)))

-- AN EDGE: m places are handed over, at least as many as there are rows

module _ (rs : List (List ℕ)) (v w m : ℕ) (room : length rs ≤ m) where
  star_cause : (c : Refusal) → EdgeSoundCause rs v w c → number_of c < 16 → EdgeStarCause rs v w m c
  star_cause _ (high k) l = edge-high k
  star_cause _ (high_other k) l = edge-high-other k
  star_cause _ (equal k) l = edge-equal k
  star_cause _ (nowhere k) l = absurd (omega arith)

  sound_cause : (c : Refusal) → EdgeStarCause rs v w m c → EdgeSoundCause rs v w c × (number_of c < 3)
  sound_cause _ (edge-high k) = (high k, omega arith)
  sound_cause _ (edge-high-other k) = (high_other k, omega arith)
  sound_cause _ (edge-equal k) = (equal k, omega arith)
  sound_cause _ (edge-short {n = n} z k) = absurd (omega (arith, star_fits rs v w n z))

  pub first_of_edge : (c : Refusal) → First (EdgeStarCause rs v w m) c → First (EdgeSoundCause rs v w) c
  first_of_edge c f =
      let s = sound_cause c f.applies in
      let b = s.1 in
      record { applies = s.0; none_before = λ d l k. f.none_before d l (star_cause d k (omega arith)) }

  pub edge_nowhere : NoCause (EdgeStarCause rs v w m) → Many (AtEdge rs v w) 0 → First (EdgeSoundCause rs v w) InNoCell
  edge_nowhere f z = record { applies = nowhere (none_listed (AtEdge rs v w) z.0 z.1 z.2); none_before = λ d l k. f d (star_cause d k l) }

  pub edge_no_cause : (n : ℕ) → NoCause (EdgeStarCause rs v w m) → Many (AtEdge rs v w) n → (n ≡ 0 → ⊥) → NoCause (EdgeSoundCause rs v w)
  edge_no_cause n f z ne _ (high k) = f VertexTooHigh (edge-high k)
  edge_no_cause n f z ne _ (high_other k) = f VertexTooHigh (edge-high-other k)
  edge_no_cause n f z ne _ (equal k) = f VerticesEqual (edge-equal k)
  edge_no_cause n f z ne _ (nowhere k) = let s = some_listed (AtEdge rs v w) n z ne in k s.0 s.1

-- A VERTEX

module _ (rs : List (List ℕ)) (v m : ℕ) (room : length rs ≤ m) where
  vertex_star_cause : (c : Refusal) → VertexSoundCause rs v c → number_of c < 16 → StarCause rs v m c
  vertex_star_cause _ (v_high k) l = star-high k
  vertex_star_cause _ (v-nowhere k) l = absurd (omega arith)

  vertex_sound_cause : (c : Refusal) → StarCause rs v m c → VertexSoundCause rs v c × (number_of c < 3)
  vertex_sound_cause _ (star-high k) = (v_high k, omega arith)
  vertex_sound_cause _ (star-short {n = n} z k) = absurd (omega (arith, star_fits rs v v n (many_twice rs v n z)))

  pub first_of_vertex : (c : Refusal) → First (StarCause rs v m) c → First (VertexSoundCause rs v) c
  first_of_vertex c f =
      let s = vertex_sound_cause c f.applies in
      let b = s.1 in
      record { applies = s.0; none_before = λ d l k. f.none_before d l (vertex_star_cause d k (omega arith)) }

  pub vertex_nowhere : NoCause (StarCause rs v m) → Many (AtVertex rs v) 0 → First (VertexSoundCause rs v) InNoCell
  vertex_nowhere f z = record { applies = v-nowhere (none_listed (AtVertex rs v) z.0 z.1 z.2); none_before = λ d l k. f d (vertex_star_cause d k l) }

  pub vertex_no_cause : (n : ℕ) → NoCause (StarCause rs v m) → Many (AtVertex rs v) n → (n ≡ 0 → ⊥) → NoCause (VertexSoundCause rs v)
  vertex_no_cause n f z ne _ (v_high k) = f VertexTooHigh (star-high k)
  vertex_no_cause n f z ne _ (v-nowhere k) = let s = some_listed (AtVertex rs v) n z ne in k s.0 s.1

-- THE EDGES AT A VERTEX

-- no question about an edge is refused
pub edge_there : (rs : List (List ℕ)) (v w : ℕ) → LawfulRows rs → (c : Refusal) → EdgeSoundCause rs v w c → Edge rs v w → ⊥
edge_there rs v w law _ (high k) e = let a = e.1.1 in law.low e.1.0 a.0 (a.1.0, a.1.1, subst (λ (z : ℕ). 4095 < z) a.1.2 k)
edge_there rs v w law _ (high_other k) e = let a = e.1.1 in law.low e.1.0 a.0 (a.2.0, a.2.1, subst (λ (z : ℕ). 4095 < z) a.2.2 k)
edge_there rs v w law _ (equal k) e = e.0 k
edge_there rs v w law _ (nowhere k) e = k e.1.0 e.1.1

-- each edge at v has its other vertex in one of the cells at v
pub by_cells : (rs : List (List ℕ)) (v : ℕ) (ks : List ℕ) → Listing (AtVertex rs v) ks
    → ((i j : ℕ) → i < length ks → j < 4 → Edge rs v (corner (get_or rs (get_or ks i 0) []) j) → EdgeSound rs v (corner (get_or rs (get_or ks i 0) []) j))
    → (w : ℕ) → Edge rs v w → EdgeSound rs v w
by_cells rs v ks a f w e =
    let t = e.1.0 in
    let h = e.1.1 in
    let k = a.whole t (h.0, h.1) in
    let x = get_or rs (get_or ks k.0 0) [] in
    let z : w ≡ corner x h.2.0 = h.2.2 ∙ ap (λ (u : ℕ). corner (get_or rs u []) h.2.0) (sym k.2) in
    subst (λ (u : ℕ). EdgeSound rs v u) (sym z) (f k.0 h.2.0 k.1 h.2.1 (subst (Edge rs v) z e))
