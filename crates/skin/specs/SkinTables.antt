-- What a skin net means.
use Rattle.std.specs.Prelude.{◌≡◌, ℕ, ◌+◌, ◌*◌, ◌/◌, ◌%◌, ◌<◌, ◌≤◌, ◌⊎◌, Bool, cond, ◌&&◌, List, Some, None, Option, nat_lt, slice_index_or}
use Rattle.carry.specs.declared.net.Place.{Place}
use Rattle.carry.specs.Turns.{turn_meaning}
use Rattle.carry.specs.Webs.{Web}
use Rattle.skin.specs.declared.side.Side.{Side}
use Rattle.skin.specs.declared.table.SkinNet.{SkinNet}
use Rattle.skin.specs.Sides.{blank, mate_at, turn_at}

-- side e of item i is one of n items
abbrev pub inside : ℕ → ℕ → ℕ → Bool
inside n i e = nat_lt i n && nat_lt e 3

-- where side e of item i leads; out of range, none
abbrev pub SideAt : ℕ → List Side → ℕ → ℕ → Option Side → Type 0
SideAt n xs i e None = (n ≤ i) ⊎ (3 ≤ e)
SideAt n xs i e (Some x) = (i < n) × (e < 3) × (x ≡ slice_index_or xs (3 * i + e) blank)

-- a side by its item and edge place
abbrev pub side_of : ℕ → Place
side_of k = record { item = k / 3; side = k % 3 }

unfoldable pub side_joins : ℕ → List Side → ℕ → ℕ → Option Place
side_joins n xs i e = cond (inside n i e) (Some (side_of (mate_at xs (3 * i + e)))) None

unfoldable pub side_steps : ℕ → List Side → ℕ → ℕ → ℕ
side_steps n xs i e = cond (inside n i e) (turn_meaning (turn_at xs (3 * i + e))) 0

abbrev pub side_web : ℕ → List Side → Web
side_web n xs = record { items = n; sides = 3; joins = side_joins n xs; steps = side_steps n xs }

-- the web of a skin net
abbrev pub skin_net_web : SkinNet → Web
skin_net_web t = side_web t.count t.sides
