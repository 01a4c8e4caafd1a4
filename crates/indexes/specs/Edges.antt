-- The entries of the edge index.
use Rattle.std.specs.Prelude.{ℕ, ◌<◌, List}
use Rattle.rules.specs.Readings.{Reading, reads, On}
use Rattle.rules.specs.Joins.{Half, OnSkin}
use Rattle.index.specs.declared.entry.Entry.{Entry}
use Rattle.index.specs.declared.keys.Pair.{Pair}
use Rattle.index.specs.Keys.{pair_order}
use Rattle.indexes.specs.Rule.{Rather}
use Rattle.indexes.specs.Lists.{OneEach}

-- k lists two vertices of a reading in rising order
pub record EdgeOf (a : Reading) (k : Pair) : Type 0 where
  pub low : k.first < k.second
  pub one : On k.first a
  pub other : On k.second a

-- k is an edge of half-face h
abbrev pub OnEdge : List (List ℕ) → Pair → ℕ → Type 0
OnEdge rs k h = Half rs h × EdgeOf (reads rs h) k

-- of two half-faces on an edge, x stands for it rather than g, or is g
abbrev pub RatherHalf : List (List ℕ) → ℕ → ℕ → Type 0
RatherHalf rs x g = Rather (OnSkin rs x) (OnSkin rs g) x g

-- an entry for each edge, with the half-face that stands for it
abbrev pub EdgeEntries : List (List ℕ) → List (Entry Pair) → Type 0
EdgeEntries rs = OneEach (OnEdge rs) (RatherHalf rs) pair_order
