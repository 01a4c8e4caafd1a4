-- Mates on the skin: from an open half-face and one of its edges, round the edge, to the next open half-face.
use Rattle.std.specs.Prelude.{◌≡◌, ℕ, zero, suc, ◌*◌, ◌/◌, ◌<◌, ◌≤◌, ◌⊎◌, List, length}
use Rattle.refusal.specs.declared.Refusal.{Refusal}
use Rattle.refusal.specs.declared.Refusal.TheVariants.{EdgePlaceTooHigh, NoSuchNumber, HalfFaceJoined}
use Rattle.rules.specs.Readings.{Reading, reads}
use Rattle.rules.specs.Joins.{Joined, OnSkin}

-- edge place e of a reading p q r runs from u to v: places 0, 1 and 2 are p q, q r and r p
abbrev pub Runs : Reading → ℕ → ℕ → ℕ → Type 0
Runs a zero u v = (u ≡ a.p) × (v ≡ a.q)
Runs a (suc zero) u v = (u ≡ a.q) × (v ≡ a.r)
Runs a (suc (suc zero)) u v = (u ≡ a.r) × (v ≡ a.p)
Runs a (suc (suc (suc e))) u v = ⊥

-- edge place e is the edge of u and v, in either direction
abbrev pub EdgeAt : Reading → ℕ → ℕ → ℕ → Type 0
EdgeAt a e u v = Runs a e u v ⊎ Runs a e v u

-- g is the other half-face of the cell of h that has the edge of u and v
pub record Beside (rs : List (List ℕ)) (u v h g : ℕ) : Type 0 where
  pub cell : g / 4 ≡ h / 4
  pub other : g ≡ h → ⊥
  pub edge : (e : ℕ) × EdgeAt (reads rs g) e u v

-- from h round the edge of u and v to m: to the half-face beside; if it is open, that is m, else across to its opposite, and so on
pub data Mate (rs : List (List ℕ)) (u v : ℕ) : ℕ → ℕ → Type 0 where
  arrives : {h g : ℕ} → Beside rs u v h g → OnSkin rs g → Mate rs u v h g
  crosses : {h g o m : ℕ} → Beside rs u v h g → Joined rs g o → Mate rs u v o m → Mate rs u v h m

-- m is the mate of h at its edge place e, and there the edge has the place d
pub record Mated (rs : List (List ℕ)) (h e m d : ℕ) : Type 0 where
  pub from : ℕ
  pub to : ℕ
  pub here : Runs (reads rs h) e from to
  pub mate : Mate rs from to h m
  pub there : EdgeAt (reads rs m) d from to

-- what refuses to tell the mate of half-face h at edge place e
pub data MateCause (rs : List (List ℕ)) (h e : ℕ) : Refusal → Type 0 where
  no_place : 2 < e → MateCause rs h e EdgePlaceTooHigh
  absent : 4 * length rs ≤ h → MateCause rs h e NoSuchNumber
  joined : {g : ℕ} → Joined rs h g → MateCause rs h e HalfFaceJoined

-- mates read their edge in opposite directions
abbrev pub MatesOpposed : List (List ℕ) → Type 0
MatesOpposed rs = (h e m d u v : ℕ) → OnSkin rs h → Mated rs h e m d → Runs (reads rs h) e u v → Runs (reads rs m) d v u
