-- Numbers listed in rising order.
use Rattle.std.specs.Prelude.{◌≡◌, ℕ, ◌<◌, ◌≤◌, List, length, take, drop, slice_index}

-- ks are the numbers that have P, in rising order
pub record Listing (P : ℕ → Type 0) (ks : List ℕ) : Type 0 where
  pub rising : (i j : ℕ) → i < j → j < length ks → slice_index ks i < slice_index ks j
  pub sound : (i : ℕ) → i < length ks → P (slice_index ks i)
  pub whole : (k : ℕ) → P k → (i : ℕ) × (i < length ks) × (slice_index ks i ≡ k)

-- n numbers have P
abbrev pub Many : (ℕ → Type 0) → ℕ → Type 0
Many P n = (ks : List ℕ) × Listing P ks × (n ≡ length ks)

-- the n numbers that have P stand in the first n places, and the places after them are untouched
pub record Filled (P : ℕ → Type 0) (n : ℕ) (old new : List ℕ) : Type 0 where
  pub fits : n ≤ length new
  pub first : Listing P (take n new)
  pub rest : drop n new ≡ drop n old
