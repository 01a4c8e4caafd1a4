-- The skin net of a list of rows: an item for each skin triangle, by rising half-face number, and its three edge places as sides.
use Rattle.std.specs.Prelude.{◌≡◌, ℕ, ◌<◌, ◌↔◌, List, length, Some, None, slice_index}
use Rattle.carry.specs.declared.net.Place.{Place}
use Rattle.carry.specs.Webs.{Web}
use Rattle.rules.specs.Readings.{Reading, reads}
use Rattle.rules.specs.Joins.{OnSkin}
use Rattle.rules.specs.Listings.{Listing}
use Rattle.rules.specs.Mates.{Runs, Mated}

-- ks are the skin triangles: edge place e of item i and the side p are mates
pub record MatedSides (rs : List (List ℕ)) (ks : List ℕ) (i e : ℕ) (p : Place) : Type 0 where
  pub item : i < length ks
  pub there : p.item < length ks
  pub mated : Mated rs (slice_index ks i) e (slice_index ks p.item) p.side

-- edge place e of one reading and edge place d of another have the same edge, read in the same direction
abbrev pub SameWay : Reading → ℕ → Reading → ℕ → Type 0
SameWay a e b d = (u : ℕ) × (v : ℕ) × Runs a e u v × Runs b d u v

-- the joins are the mates; the step is 1 where both read the edge in the same direction, else 0
pub record SkinWeb (rs : List (List ℕ)) (w : Web) : Type 0 where
  pub skin : List ℕ
  pub listing : Listing (OnSkin rs) skin
  pub items : w.items ≡ length skin
  pub sides : w.sides ≡ 3
  pub joins : (i e : ℕ) (p : Place) → (w.joins i e ≡ Some p) ↔ MatedSides rs skin i e p
  -- the skin has no border: every edge of every skin triangle has a mate
  pub closed : (i e : ℕ) → i < length skin → e < 3 → (p : Place) × (w.joins i e ≡ Some p)
  pub same : (i e : ℕ) (p : Place) → MatedSides rs skin i e p → SameWay (reads rs (slice_index skin i)) e (reads rs (slice_index skin p.item)) p.side → w.steps i e ≡ 1
  pub opposed : (i e : ℕ) (p : Place) → MatedSides rs skin i e p → (SameWay (reads rs (slice_index skin i)) e (reads rs (slice_index skin p.item)) p.side → ⊥) → w.steps i e ≡ 0
  pub still : (i e : ℕ) → w.joins i e ≡ None → w.steps i e ≡ 0
