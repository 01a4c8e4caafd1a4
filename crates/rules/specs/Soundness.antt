-- Soundness of the edges and vertices of a list of rows.
-- Where v and w are two vertices it is about their edge, and where they are one, about that vertex.
use Rattle.std.specs.Prelude.{◌≡◌, ℕ, ◌/◌, ◌<◌, Bool, true, ◌↔◌, List, Result, ◌≢◌}
use Rattle.refusal.specs.declared.Refusal.{Refusal}
use Rattle.refusal.specs.declared.Refusal.TheVariants.{VertexTooHigh, VerticesEqual, InNoCell}
use Rattle.refusal.specs.Causes.{Answered}
use Rattle.rules.specs.Readings.{reads, On}
use Rattle.rules.specs.Joins.{Joined}
use Rattle.rules.specs.Questions.{AtVertex, AtEdge}

-- half-face h holds v and w
abbrev pub Holds : List (List ℕ) → ℕ → ℕ → ℕ → Type 0
Holds rs v w h = On v (reads rs h) × On w (reads rs h)

-- the cells that cell s leads to by crossing joined triangles that hold v and w
pub data Leads (rs : List (List ℕ)) (v w s : ℕ) : ℕ → Type 0 where
  stays : Leads rs v w s s
  crosses : {h g : ℕ} → Leads rs v w s (h / 4) → Joined rs h g → Holds rs v w h → Leads rs v w s (g / 4)

-- the cells that have v and w reach one another so
abbrev pub Linked : List (List ℕ) → ℕ → ℕ → Type 0
Linked rs v w = (s t : ℕ) → AtEdge rs v w s → AtEdge rs v w t → Leads rs v w s t

-- v and w are the vertices of an edge: they differ, and a cell has both
abbrev pub Edge : List (List ℕ) → ℕ → ℕ → Type 0
Edge rs v w = (v ≢ w) × ((t : ℕ) × AtEdge rs v w t)

-- the edge of v and w is sound
abbrev pub EdgeSound : List (List ℕ) → ℕ → ℕ → Type 0
EdgeSound rs v w = Linked rs v w

-- all edges at v are sound, and the cells at v reach one another
pub record VertexSound (rs : List (List ℕ)) (v : ℕ) : Type 0 where
  pub edges : (w : ℕ) → Edge rs v w → EdgeSound rs v w
  pub cells : Linked rs v v

-- what refuses to tell whether the edge of v and w is sound
pub data EdgeSoundCause (rs : List (List ℕ)) (v w : ℕ) : Refusal → Type 0 where
  high : 4095 < v → EdgeSoundCause rs v w VertexTooHigh
  high_other : 4095 < w → EdgeSoundCause rs v w VertexTooHigh
  equal : v ≡ w → EdgeSoundCause rs v w VerticesEqual
  nowhere : ((t : ℕ) → AtEdge rs v w t → ⊥) → EdgeSoundCause rs v w InNoCell

-- and the vertex v
pub data VertexSoundCause (rs : List (List ℕ)) (v : ℕ) : Refusal → Type 0 where
  high : 4095 < v → VertexSoundCause rs v VertexTooHigh
  nowhere : ((t : ℕ) → AtVertex rs v t → ⊥) → VertexSoundCause rs v InNoCell

-- true is answered exactly when the edge is sound
abbrev pub TellsEdgeSound : List (List ℕ) → ℕ → ℕ → Result Bool Refusal → Type 0
TellsEdgeSound rs v w = Answered (EdgeSoundCause rs v w) (λ b. (b ≡ true) ↔ EdgeSound rs v w)

abbrev pub TellsVertexSound : List (List ℕ) → ℕ → Result Bool Refusal → Type 0
TellsVertexSound rs v = Answered (VertexSoundCause rs v) (λ b. (b ≡ true) ↔ VertexSound rs v)
