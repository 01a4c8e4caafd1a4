-- A row: the four vertices of a cell, in the order of its corners 0 to 3.
use Rattle.std.specs.Prelude.{◌≡◌, ℕ, ◌<◌, ◌↔◌, List, [], ◌∷◌, slice_index}

abbrev pub corner : List ℕ → ℕ → ℕ
corner x i = slice_index x i

abbrev pub row : ℕ → ℕ → ℕ → ℕ → List ℕ
row a b c d = a ∷ b ∷ c ∷ d ∷ []

-- the four vertices of the row x, in order
abbrev pub vertices : List ℕ → List ℕ
vertices x = row (corner x 0) (corner x 1) (corner x 2) (corner x 3)

-- v is one of the four vertices of the row x
abbrev pub In : ℕ → List ℕ → Type 0
In v x = (i : ℕ) × (i < 4) × (v ≡ corner x i)

-- two rows have the same four vertices, in whatever order
abbrev pub SameVertices : List ℕ → List ℕ → Type 0
SameVertices x y = (v : ℕ) → In v x ↔ In v y

-- a vertex number of the row is above 4,095
abbrev pub TooHigh : List ℕ → Type 0
TooHigh x = (i : ℕ) × (i < 4) × (4095 < corner x i)

-- two vertices of the row are equal
abbrev pub Repeated : List ℕ → Type 0
Repeated x = (i : ℕ) × (j : ℕ) × (i < j) × (j < 4) × (corner x i ≡ corner x j)

-- the last two vertices exchanged
abbrev pub turned_row : List ℕ → List ℕ
turned_row x = row (corner x 0) (corner x 1) (corner x 3) (corner x 2)
