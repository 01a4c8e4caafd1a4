-- Where a key is among entries that rise.
use Rattle.std.specs.Prelude.{◌≡◌, ℕ, ◌<◌, ◌≤◌, List, length, Ok, Err, Result, slice_index_or}
use Rattle.std.specs.declared.cmp.Ordering.TheVariants.{Less, Equal, Greater}
use Rattle.std.specs.declared.cmp.Ordering.{Ordering}
use Rattle.index.specs.declared.entry.Entry.{Entry}

module _ {K : Type 0} (order : K → K → Ordering) where
  -- each entry before the place p has a lesser key than k
  abbrev pub LessBefore : K → List (Entry K) → ℕ → Type 0
  LessBefore k es p = (i : ℕ) (d : Entry K) → i < p → order (slice_index_or es i d).key k ≡ Less

  -- each entry from the place p on has a greater key than k
  abbrev pub GreaterFrom : K → List (Entry K) → ℕ → Type 0
  GreaterFrom k es p = (i : ℕ) (d : Entry K) → p ≤ i → i < length es → order (slice_index_or es i d).key k ≡ Greater

  -- a place of the key k, or else the place where it belongs
  abbrev pub Sought : K → List (Entry K) → Result ℕ ℕ → Type 0
  Sought k es (Ok i) = (i < length es) × ((d : Entry K) → order (slice_index_or es i d).key k ≡ Equal)
  Sought k es (Err p) = (p ≤ length es) × LessBefore k es p × GreaterFrom k es p
