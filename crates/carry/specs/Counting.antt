-- How many numbers below a bound have a property.
use Rattle.std.specs.Prelude.{ℕ, zero, suc}

-- c of the numbers below n have P
pub data Counts (P : ℕ → Type 0) : ℕ → ℕ → Type 0 where
  none : Counts P zero zero
  one : {n c : ℕ} → Counts P n c → P n → Counts P (suc n) (suc c)
  skip : {n c : ℕ} → Counts P n c → (P n → ⊥) → Counts P (suc n) c
