-- The relations of the rules as tests that compute; proofs/ ties each to its relation. Contracts of public calls do not cite them.
use Rattle.std.specs.Prelude.{◌≡◌, ℕ, zero, suc, ◌/◌, ◌%◌, ◌<◌, Bool, false, cond, not, ◌&&◌, ◌||◌, List, [], ◌∷◌, ◌++◌, length, Some, None, Option, ◌==◌, ◌≢◌, nat_lt, slice_index, slice_index_or}

-- v is a corner of the row x, and not its corner i (at i = 4: any corner)
abbrev pub on : List ℕ → ℕ → ℕ → Bool
on x i v = (not (i == 0) && slice_index x 0 == v) || ((not (i == 1) && slice_index x 1 == v) || ((not (i == 2) && slice_index x 2 == v) || (not (i == 3) && slice_index x 3 == v)))

-- v is on half-face h of a list of rows
abbrev pub on_face : List (List ℕ) → ℕ → ℕ → Bool
on_face rs h v = on (slice_index_or rs (h / 4) []) (h % 4) v

-- triangle i of the row x and triangle j of the row y have the same vertices (at 4: the whole row)
abbrev pub SameOn : List ℕ → ℕ → List ℕ → ℕ → Type 0
SameOn x i y j = (v : ℕ) → on x i v ≡ on y j v

-- The next three have their premises in one product each, since a ghost field is seen to be a proposition only a few arrows deep.

-- each corner is a vertex number
abbrev pub Below : List (List ℕ) → Type 0
Below rs = (t i : ℕ) → (t < length rs) × (i < 4) → slice_index (slice_index_or rs t []) i < 4096

-- the four corners of a row differ
abbrev pub Differ : List (List ℕ) → Type 0
Differ rs = (t i j : ℕ) → (t < length rs) × (i < j) × (j < 4) × (slice_index (slice_index_or rs t []) i ≡ slice_index (slice_index_or rs t []) j) → ⊥

-- no two rows have the same vertices
abbrev pub Apart : List (List ℕ) → Type 0
Apart rs = (t u : ℕ) → (t < u) × (u < length rs) × SameOn (slice_index_or rs t []) 4 (slice_index_or rs u []) 4 → ⊥

-- four different vertices
pub record Fine (x : List ℕ) : Type 0 where
  pub below : (i : ℕ) → i < 4 → slice_index x i < 4096
  pub differ : (i j : ℕ) → i < j → j < 4 → slice_index x i ≢ slice_index x j

-- the numbers below n that pass
abbrev pub picks : (ℕ → Bool) → ℕ → List ℕ
picks f zero = []
picks f (suc n) = cond (f n) (picks f n ++ n ∷ []) (picks f n)

-- a vertex of the row is too high
abbrev pub high_test : List ℕ → Bool
high_test x = nat_lt 4095 (slice_index x 0) || (nat_lt 4095 (slice_index x 1) || (nat_lt 4095 (slice_index x 2) || nat_lt 4095 (slice_index x 3)))

-- two vertices of the row are equal
abbrev pub repeat_test : List ℕ → Bool
repeat_test x = slice_index x 0 == slice_index x 1 || (slice_index x 0 == slice_index x 2 || (slice_index x 0 == slice_index x 3 || (slice_index x 1 == slice_index x 2 || (slice_index x 1 == slice_index x 3 || slice_index x 2 == slice_index x 3))))

-- o is Some g
abbrev pub names : Option ℕ → ℕ → Bool
names None g = false
names (Some k) g = k == g
