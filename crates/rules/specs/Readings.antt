-- Half-face i of a row is the triangle without corner i, read in the order below.
use Rattle.std.specs.Prelude.{◌≡◌, ℕ, zero, suc, ◌/◌, ◌%◌, ◌⊎◌, ◌↔◌, List, [], ◌∷◌, slice_index_or}
use Rattle.rules.specs.Rows.{corner}

-- a triangle, read in order
pub record Reading : Type 0 where
  pub p : ℕ
  pub q : ℕ
  pub r : ℕ

abbrev pub face : List ℕ → ℕ → Reading
face x zero = record { p = corner x 1; q = corner x 2; r = corner x 3 }
face x (suc zero) = record { p = corner x 2; q = corner x 0; r = corner x 3 }
face x (suc (suc zero)) = record { p = corner x 3; q = corner x 0; r = corner x 1 }
face x (suc (suc (suc i))) = record { p = corner x 0; q = corner x 2; r = corner x 1 }

-- what half-face h of a list of rows reads: half-face 4 t + i is half-face i of row t
abbrev pub reads : List (List ℕ) → ℕ → Reading
reads rs h = face (slice_index_or rs (h / 4) []) (h % 4)

-- a reading as a list of its three vertices
abbrev pub listed : Reading → List ℕ
listed a = a.p ∷ a.q ∷ a.r ∷ []

abbrev pub rotated : Reading → Reading
rotated a = record { p = a.q; q = a.r; r = a.p }

-- one reading is a rotation of the other
abbrev pub Alike : Reading → Reading → Type 0
Alike a b = (a ≡ b) ⊎ ((a ≡ rotated b) ⊎ (a ≡ rotated (rotated b)))

-- v is one of the three vertices
abbrev pub On : ℕ → Reading → Type 0
On v a = (v ≡ a.p) ⊎ ((v ≡ a.q) ⊎ (v ≡ a.r))

-- two readings have the same three vertices, in whatever order
abbrev pub SameTriangle : Reading → Reading → Type 0
SameTriangle a b = (v : ℕ) → On v a ↔ On v b
