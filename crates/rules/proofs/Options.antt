-- An optional number that is there.
use Rattle.std.proofs.Common.{◌≡◌, ℕ, Some, None, arith}

pub some_eq : (x y : ℕ) → Some x ≡ Some y → x ≡ y
some_eq x y p = cc

pub some_none : (x : ℕ) → Some x ≡ None → ⊥
some_none x p = let z : ◌≡◌ {A = ℕ} 0 1 = cc in omega arith
