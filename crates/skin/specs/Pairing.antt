-- How the table of the skin net is built.
use Rattle.std.specs.Prelude.{◌≡◌, ℕ, ◌*◌, ◌/◌, ◌%◌, ◌<◌, ◌≤◌, List, length, slice_index, slice_index_or}
use Rattle.carry.specs.declared.turn.Turn.{Turn}
use Rattle.carry.specs.declared.turn.Turn.TheVariants.{Straight, Turned}
use Rattle.rules.specs.Readings.{reads}
use Rattle.rules.specs.Joins.{OnSkin}
use Rattle.rules.specs.Listings.{Listing}
use Rattle.rules.specs.Mates.{Mated}
use Rattle.rules.specs.SkinNets.{SameWay}
use Rattle.skin.specs.declared.side.Side.{Side}
use Rattle.skin.specs.Sides.{blank}

-- ks are the skin triangles of rows that are few enough for a ground
pub record SkinOf (rs : List (List ℕ)) (ks : List ℕ) : Type 0 where
  pub few : length rs ≤ 1024
  pub listing : Listing (OnSkin rs) ks

-- each number of ks stands in `items` with its place in ks
pub record Numbered (ks items : List ℕ) : Type 0 where
  pub long : length items ≡ 4096
  pub item : (i : ℕ) → i < length ks → slice_index items (slice_index ks i) ≡ i

-- t is the turn between edge place e of half-face h and edge place d of half-face g
pub record TurnBetween (rs : List (List ℕ)) (h e g d : ℕ) (t : Turn) : Type 0 where
  pub same : SameWay (reads rs h) e (reads rs g) d → t ≡ Turned
  pub opposed : (SameWay (reads rs h) e (reads rs g) d → ⊥) → t ≡ Straight

-- side k of the skin triangles ks leads where x says, and nothing else leads there
pub record Leads (rs : List (List ℕ)) (ks : List ℕ) (k : ℕ) (x : Side) : Type 0 where
  pub near : x.mate < 3 * length ks
  pub mated : Mated rs (slice_index ks (k / 3)) (k % 3) (slice_index ks (x.mate / 3)) (x.mate % 3)
  pub back : (g d : ℕ) → Mated rs (slice_index ks (x.mate / 3)) (x.mate % 3) g d → (g ≡ slice_index ks (k / 3)) × (d ≡ k % 3)
  pub turn : TurnBetween rs (slice_index ks (k / 3)) (k % 3) (slice_index ks (x.mate / 3)) (x.mate % 3) x.turn

-- the first n of the sides lead where xs says
abbrev pub LeadsAll : List (List ℕ) → List ℕ → ℕ → List Side → Type 0
LeadsAll rs ks n xs = (k : ℕ) → k < n → Leads rs ks k (slice_index_or xs k blank)
