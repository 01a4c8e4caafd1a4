-- Lists of entries that rise by key.
use Rattle.std.specs.Prelude.{◌≡◌, ℕ, suc, ◌<◌, true, cond, List, [], ◌∷◌, length, Some, None, Option, slice_index_or}
use Rattle.std.specs.declared.cmp.Ordering.TheVariants.{Less, Equal, Greater}
use Rattle.std.specs.declared.cmp.Ordering.{Ordering}
use Rattle.std.specs.Ordering.{is_lt, is_eq}
use Rattle.index.specs.declared.entry.Entry.{Entry}

module _ {K : Type 0} (order : K → K → Ordering) where
  -- each entry has a lesser key than the next
  abbrev pub Rising : List (Entry K) → Type 0
  Rising es = (i : ℕ) (d : Entry K) → suc i < length es → is_lt (order (slice_index_or es i d).key (slice_index_or es (suc i) d).key) ≡ true

  -- the list with the entry e in its place, in place of one of an equal key
  abbrev pub put_in : Entry K → List (Entry K) → List (Entry K)
  put_in e [] = e ∷ []
  put_in e (x ∷ xs) = elim (order x.key e.key) [ Less ↦ x ∷ put_in e xs | Equal ↦ e ∷ xs | Greater ↦ e ∷ x ∷ xs ]

  -- the half-face beside the key k
  abbrev pub half_face_of : K → List (Entry K) → Option ℕ
  half_face_of k [] = None
  half_face_of k (x ∷ xs) = cond (is_eq (order x.key k)) (Some x.half_face) (half_face_of k xs)
