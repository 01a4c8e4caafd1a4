-- What a call leaves of a list of which it may write the first n places.
use Rattle.std.specs.Prelude.{◌≡◌, ℕ, ◌<◌, List, length, drop, slice_index}

-- the list is as long as it was, and from place n on it is as it was
pub record Beyond {M : Type 0} (n : ℕ) (old new : List M) : Type 0 where
  pub long : length new ≡ length old
  pub rest : drop n new ≡ drop n old

-- and the first n places are zero
pub record Cleared (n : ℕ) (old new : List ℕ) : Type 0 where
  pub zero : (i : ℕ) → i < n → slice_index new i ≡ 0
  pub beyond : Beyond n old new
