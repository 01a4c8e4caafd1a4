-- What the functions behind the indexes keep as they go through the half-faces.
use Rattle.std.specs.Prelude.{◌≡◌, ℕ, ◌<◌, ◌≤◌, ◌⊎◌, List, length, drop, Some, None, Ok, Err, Option, Result, ◌≢◌}
use Rattle.std.specs.declared.cmp.Ordering.{Ordering}
use Rattle.refusal.specs.declared.Refusal.{Refusal}
use Rattle.refusal.specs.declared.Refusal.TheVariants.{ListTooShort}
use Rattle.index.specs.declared.entry.Entry.{Entry}
use Rattle.index.specs.Entries.{half_face_of}
use Rattle.index.specs.Held.{Held}
use Rattle.index.specs.declared.keys.Pair.{Pair}
use Rattle.index.specs.declared.keys.Triple.{Triple}
use Rattle.index.specs.Keys.{pair_order, triple_order}
use Rattle.indexes.specs.Lists.{Names}
use Rattle.indexes.specs.Faces.{OnTriangle}
use Rattle.indexes.specs.Edges.{OnEdge, RatherHalf}

module _ {K : Type 0} (Has : K → ℕ → Type 0) (Rather : ℕ → ℕ → Type 0) where
  -- what is found beside the key k: the half-face that stands for it, or none if none has it
  abbrev pub Finds : K → Option ℕ → Type 0
  Finds k None = (g : ℕ) → Has k g → ⊥
  Finds k (Some x) = Names Has Rather k x

  -- each key is found as it should be
  abbrev pub Gathered : (K → K → Ordering) → List (Entry K) → Type 0
  Gathered order es = (k : K) → Finds k (half_face_of order k es)

-- of the half-face that was found beside a key, and h, the one that stands for it is x
abbrev pub Chosen : (ℕ → ℕ → Type 0) → Option ℕ → ℕ → ℕ → Type 0
Chosen Rather None h x = x ≡ h
Chosen Rather (Some g) h x = ((x ≡ g) ⊎ (x ≡ h)) × Rather x g × Rather x h

module _ {K : Type 0} (order : K → K → Ordering) (Rather : ℕ → ℕ → Type 0) where
  -- h was offered for the key k: the one that stands for it is found now, and beside other keys what was found before
  pub record Offered (k : K) (h : ℕ) (es fs : List (Entry K)) : Type 0 where
    pub chosen : ℕ
    pub right : Chosen Rather (half_face_of order k es) h chosen
    pub found : half_face_of order k fs ≡ Some chosen
    pub others : (q : K) → (q ≢ k) → half_face_of order q fs ≡ half_face_of order q es

-- of the half-faces that have a key, those below m
abbrev pub Before : {K : Type 0} → (K → ℕ → Type 0) → ℕ → K → ℕ → Type 0
Before Has m k g = Has k g × (g < m)

-- the triangles of the half-faces below m are gathered
abbrev pub FacesBefore : List (List ℕ) → ℕ → List (Entry Triple) → Type 0
FacesBefore rs m = Gathered (Before (OnTriangle rs) m) (λ x g. x ≤ g) triple_order

-- the edges of the half-faces below m are gathered
abbrev pub EdgesBefore : List (List ℕ) → ℕ → List (Entry Pair) → Type 0
EdgesBefore rs m = Gathered (Before (OnEdge rs) m) (RatherHalf rs) pair_order

-- entries are put into an index that has none; where they do not fit nothing is
abbrev pub HandedOver : {K : Type 0} → List (Entry K) → Held K → Result ℕ Refusal → Held K → Type 0
HandedOver es before (Ok n) after = (n ≡ length es) × (n ≤ length before.free) × (after ≡ record { entries = es; free = drop n before.free })
HandedOver es before (Err c) after = (c ≡ ListTooShort) × (length before.free < length es) × (after ≡ before)
