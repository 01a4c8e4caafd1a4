-- The search for the half-faces that the four triangles of a new row meet.
use Rattle.std.specs.Prelude.{◌≡◌, ℕ, ◌+◌, ◌*◌, ◌<◌, ◌≤◌, Bool, false, cond, ◌&&◌, ◌||◌, ◌⊎◌, List, [], ◌∷◌, length, is_some, Some, None, Ok, Err, Option, Result, ◌==◌, slice_index, slice_index_or}
use Rattle.refusal.specs.declared.Refusal.{Refusal}
use Rattle.refusal.specs.declared.Refusal.TheVariants.{CellPresent, TriangleTaken}
use Rattle.rules.specs.PlainList.{StandsIn, CrowdedIn}
use Rattle.rules.specs.Tests.{on, on_face, SameOn, Below, Differ, Apart}
use Rattle.ground.specs.declared.cell.Cell.{Cell}
use Rattle.ground.specs.Records.{rows, join_at, Four, JoinsNear, JoinsOther, JoinsSame, JoinsWhole}

-- what a search among the cells rests on: the corners of a row are vertices and differ, and the joins are exact
pub record Lawful (cs : List Cell) (n : ℕ) : Type 0 where
  pub below : Below (rows cs n)
  pub differ : Differ (rows cs n)
  pub near : JoinsNear (4 * n) (join_at cs)
  pub other : JoinsOther (4 * n) (join_at cs)
  pub same : JoinsSame (on_face (rows cs n)) (4 * n) (join_at cs)
  pub whole : JoinsWhole (on_face (rows cs n)) (4 * n) (join_at cs)

-- all that holds of the first n records of a ground
pub record Standing (cs : List Cell) (n : ℕ) : Type 0 where
  pub room : n ≤ length cs
  pub law : Lawful cs n
  pub apart : Apart (rows cs n)
  pub four : Four cs n

-- ws are the half-faces of the rows rs that the four triangles of a new row x meet, and x is no row of rs
pub record Met (rs : List (List ℕ)) (x : List ℕ) (ws : List (Option ℕ)) : Type 0 where
  pub sound : (i g : ℕ) → i < 4 → slice_index_or ws i None ≡ Some g → (g < 4 * length rs) × ((v : ℕ) → on x i v ≡ on_face rs g v)
  pub whole : (i g : ℕ) → i < 4 → g < 4 * length rs → ((v : ℕ) → on x i v ≡ on_face rs g v) → slice_index_or ws i None ≡ Some g
  pub fresh : (t : ℕ) → t < length rs → SameOn (slice_index_or rs t []) 4 x 4 → ⊥

-- what `partners` answers: the half-faces that the four triangles meet, or the cause that applies, the cell before the triangle
abbrev pub Partners : List (List ℕ) → List ℕ → Result (List (Option ℕ)) Refusal → Type 0
Partners rs x (Ok ws) = Met rs x ws × (CrowdedIn rs x → ⊥) × (length ws ≡ 4)
Partners rs x (Err c) = ((c ≡ CellPresent) × StandsIn rs x) ⊎ ((c ≡ TriangleTaken) × (StandsIn rs x → ⊥) × CrowdedIn rs x)

-- o is a half-face below m on triangle i of x, or none is there
pub record Seen (rs : List (List ℕ)) (x : List ℕ) (i m : ℕ) (o : Option ℕ) : Type 0 where
  pub sound : (g : ℕ) → o ≡ Some g → (g < m) × ((v : ℕ) → on x i v ≡ on_face rs g v)
  pub whole : o ≡ None → (g : ℕ) → g < m → ((v : ℕ) → on x i v ≡ on_face rs g v) → ⊥

-- what the scan knows once it has passed the first n rows: none is x, and `found` has a half-face for each triangle that is there
pub record Passed (rs : List (List ℕ)) (x : List ℕ) (n : ℕ) (found : List (Option ℕ)) : Type 0 where
  pub four : length found ≡ 4
  pub fresh : (t : ℕ) → t < n → SameOn (slice_index_or rs t []) 4 x 4 → ⊥
  pub seen : (i : ℕ) → i < 4 → Seen rs x i (4 * n) (slice_index_or found i None)

-- a scan stops at a row with the same four vertices, and else passes all rows
abbrev pub Scanned : List (List ℕ) → List ℕ → Option (List (Option ℕ)) → Type 0
Scanned rs x None = StandsIn rs x
Scanned rs x (Some found) = Passed rs x (length rs) found

-- THE TESTS OF THE CODE, AS THEY COMPUTE

-- each vertex of triangle i of x is on triangle j of y (at 4: the whole row)
abbrev pub within : List ℕ → ℕ → List ℕ → ℕ → Bool
within x i y j = (i == 0 || on y j (slice_index x 0)) && ((i == 1 || on y j (slice_index x 1)) && ((i == 2 || on y j (slice_index x 2)) && (i == 3 || on y j (slice_index x 3))))

-- the two triangles have the same vertices
unfoldable pub same_face : List ℕ → ℕ → List ℕ → ℕ → Bool
same_face x i y j = within x i y j && within y j x i

-- the half-face of the row y, the first of which is h, on triangle i of x; else what was found before
abbrev pub picked : Option ℕ → List ℕ → ℕ → List ℕ → ℕ → Option ℕ
picked o x i y h = cond (same_face x i y 0) (Some h) (cond (same_face x i y 1) (Some (h + 1)) (cond (same_face x i y 2) (Some (h + 2)) (cond (same_face x i y 3) (Some (h + 3)) o)))

abbrev pub picked_all : List (Option ℕ) → List ℕ → List ℕ → ℕ → List (Option ℕ)
picked_all os x y h = picked (slice_index_or os 0 None) x 0 y h ∷ picked (slice_index_or os 1 None) x 1 y h ∷ picked (slice_index_or os 2 None) x 2 y h ∷ picked (slice_index_or os 3 None) x 3 y h ∷ []

-- what the row y adds to what was found: nothing is left to find if it has the same four vertices
abbrev pub met_with : List (Option ℕ) → List ℕ → List ℕ → ℕ → Option (List (Option ℕ))
met_with os x y h = cond (same_face y 4 x 4) None (Some (picked_all os x y h))

abbrev pub joined_at : List Cell → Option ℕ → Bool
joined_at cs None = false
joined_at cs (Some g) = is_some (join_at cs g)

abbrev pub any_joined : List Cell → List (Option ℕ) → Bool
any_joined cs os = joined_at cs (slice_index_or os 0 None) || (joined_at cs (slice_index_or os 1 None) || (joined_at cs (slice_index_or os 2 None) || joined_at cs (slice_index_or os 3 None)))
