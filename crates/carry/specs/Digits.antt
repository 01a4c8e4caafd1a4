-- Four different digits from 0 to 3, and the number that they write.
use Rattle.std.specs.Prelude.{ℕ, zero, suc, ◌+◌, ◌*◌, ◌/◌, ◌%◌, Bool, cond, not, ◌&&◌, List, [], ◌∷◌, ◌==◌, nat_lt}
use Rattle.carry.specs.Kinds.{Kind}

-- four different digits from 0 to 3
unfoldable pub different : ℕ → ℕ → ℕ → ℕ → Bool
different a b c d =
    (nat_lt a 4 && (nat_lt b 4 && (nat_lt c 4 && nat_lt d 4))) &&
    (not (a == b) && (not (a == c) && (not (a == d) && (not (b == c) && (not (b == d) && not (c == d))))))

-- the four digits as one number
abbrev pub number : ℕ → ℕ → ℕ → ℕ → ℕ
number a b c d = ((a * 10 + b) * 10 + c) * 10 + d

-- digit k of n, from the left
abbrev pub digit : ℕ → ℕ → ℕ
digit n zero = n / 1000
digit n (suc zero) = n / 100 % 10
digit n (suc (suc zero)) = n / 10 % 10
digit n (suc (suc (suc k))) = n % 10

abbrev pub digits : ℕ → List ℕ
digits n = digit n 0 ∷ digit n 1 ∷ digit n 2 ∷ digit n 3 ∷ []

-- the place of the digit k in n
abbrev pub place : ℕ → ℕ → ℕ
place n k = cond (digit n 0 == k) 0 (cond (digit n 1 == k) 1 (cond (digit n 2 == k) 2 3))

-- digit k of p combined with m is the digit of p at place m(k)
unfoldable pub composed : ℕ → ℕ → ℕ
composed p m = number (digit p (digit m 0)) (digit p (digit m 1)) (digit p (digit m 2)) (digit p (digit m 3))

-- digit k of the inverse of m is the place of the digit k in m
unfoldable pub undone : ℕ → ℕ
undone m = number (place m 0) (place m 1) (place m 2) (place m 3)

-- the neutral label is 0123
abbrev pub corner_kind : Kind
corner_kind = record { neutral = number 0 1 2 3; combined = composed; inverse = undone }
