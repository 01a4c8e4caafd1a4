-- A kind of label by what its labels mean: a number for each, and how two of them are put together.
use Rattle.std.specs.Prelude.{◌≡◌, ℕ}

pub record Kind : Type 0 where
  pub neutral : ℕ
  pub combined : ℕ → ℕ → ℕ
  pub inverse : ℕ → ℕ

-- By what they mean, the values of the type M are a group.
pub record Group {M : Type 0} (meaning : M → ℕ) (k : Kind) : Type 0 where
  pub associative : (a b c : M) → k.combined (k.combined (meaning a) (meaning b)) (meaning c) ≡ k.combined (meaning a) (k.combined (meaning b) (meaning c))
  pub neutral_before : (a : M) → k.combined k.neutral (meaning a) ≡ meaning a
  pub neutral_after : (a : M) → k.combined (meaning a) k.neutral ≡ meaning a
  pub inverse_before : (a : M) → k.combined (k.inverse (meaning a)) (meaning a) ≡ k.neutral
  pub inverse_after : (a : M) → k.combined (meaning a) (k.inverse (meaning a)) ≡ k.neutral
  -- and each of these meanings is that of a value
  pub neutral_meant : (b : M) × (meaning b ≡ k.neutral)
  pub combined_meant : (a b : M) → (c : M) × (meaning c ≡ k.combined (meaning a) (meaning b))
  pub inverse_meant : (a : M) → (b : M) × (meaning b ≡ k.inverse (meaning a))
