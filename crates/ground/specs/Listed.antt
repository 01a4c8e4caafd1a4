-- The tests by which cells and half-faces are listed, and what listing leaves.
use Rattle.std.specs.Prelude.{◌≡◌, ℕ, ◌*◌, ◌<◌, ◌≤◌, Bool, true, false, ◌&&◌, List, length, take, drop, Some, None, Ok, Err, Option, Result, nat_lt, slice_index_or}
use Rattle.refusal.specs.declared.Refusal.{Refusal}
use Rattle.refusal.specs.declared.Refusal.TheVariants.{ListTooShort}
use Rattle.rules.specs.Tests.{on, picks}
use Rattle.ground.specs.declared.cell.Cell.{Cell}
use Rattle.ground.specs.declared.counts.Counts.{Counts}
use Rattle.ground.specs.Records.{blank, join_at}

-- cell t has the vertices v and w
unfoldable pub has_both : List Cell → ℕ → ℕ → ℕ → Bool
has_both cs v w t = on (slice_index_or cs t blank).corners 4 v && on (slice_index_or cs t blank).corners 4 w

abbrev pub none_there : Option ℕ → Bool
none_there None = true
none_there (Some g) = false

abbrev pub higher_there : Option ℕ → ℕ → Bool
higher_there None h = false
higher_there (Some g) h = nat_lt h g

-- half-face h is stored as open
unfoldable pub open_at : List Cell → ℕ → Bool
open_at cs h = none_there (join_at cs h)

-- half-face h is stored as joined to a higher one
unfoldable pub lower_at : List Cell → ℕ → Bool
lower_at cs h = higher_there (join_at cs h) h

-- a closure, by what its calls need and answer, may be called at each number below n, and tests it as f does
abbrev pub TestsBelow : (ℕ → Type 0) → (ℕ → Bool → Type 0) → (ℕ → Bool) → ℕ → Type 0
TestsBelow pre post f n = (k : ℕ) → k < n → pre k × ((b : Bool) → post k b → b ≡ f k)

-- c has the numbers of cells, joined triangles and skin triangles of the first n records
pub record Tallied (cs : List Cell) (n : ℕ) (c : Counts) : Type 0 where
  pub cells : c.cells ≡ n
  pub joined : c.joined ≡ length (picks (lower_at cs) (4 * n))
  pub skin : c.skin ≡ length (picks (open_at cs) (4 * n))

-- the numbers below n that pass f are written and counted, or they do not fit and nothing is written
abbrev pub Written : (ℕ → Bool) → ℕ → List ℕ → Result ℕ Refusal → List ℕ → Type 0
Written f n old (Ok m) new = (m ≡ length (picks f n)) × (m ≤ length new) × (take (length (picks f n)) new ≡ picks f n) × (drop (length (picks f n)) new ≡ drop (length (picks f n)) old)
Written f n old (Err c) new = (c ≡ ListTooShort) × (length old < length (picks f n)) × (new ≡ old)
