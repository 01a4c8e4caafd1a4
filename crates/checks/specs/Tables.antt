-- The net that a table gives: at most four items with two sides each, and side s of item i at place 2 * i + s of its lists.
use Rattle.std.specs.Prelude.{ℕ, ◌+◌, ◌*◌, Bool, false, cond, ◌&&◌, List, Some, None, Option, ◌==◌, nat_lt, slice_index, slice_index_or}
use Rattle.carry.specs.declared.net.Place.{Place}
use Rattle.carry.specs.Kinds.{Kind}
use Rattle.carry.specs.Webs.{Web}

-- the side that side s of item i names, of n items
unfoldable pub name_at : ℕ → List (Option Place) → ℕ → ℕ → Option Place
name_at n names i s = cond (nat_lt i n && nat_lt s 2) (slice_index_or names (2 * i + s) None) None

abbrev pub is_place : Option Place → ℕ → ℕ → Bool
is_place None i s = false
is_place (Some q) i s = q.item == i && q.side == s

abbrev pub answered : ℕ → List (Option Place) → ℕ → ℕ → Option Place → Option Place
answered n names i s None = None
answered n names i s (Some p) = cond (is_place (name_at n names p.item p.side) i s) (Some p) None

-- two sides are joined where each names the other
unfoldable pub joined : ℕ → List (Option Place) → ℕ → ℕ → Option Place
joined n names i s = answered n names i s (name_at n names i s)

abbrev pub step_at : Option Place → ℕ → ℕ → ℕ
step_at None neutral step = neutral
step_at (Some p) neutral step = step

-- steps are the meanings of the labels in the table
abbrev pub table_web : ℕ → List (Option Place) → List ℕ → Kind → Web
table_web n names steps k = record {
  items = n;
  sides = 2;
  joins = joined n names;
  steps = λ i s. step_at (joined n names i s) k.neutral (slice_index steps (2 * i + s));
}
