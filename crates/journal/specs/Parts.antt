-- Parts of lists, which calls are handed.
use Rattle.std.specs.Prelude.{◌≡◌, ℕ, ◌+◌, ◌≤◌, List, length, take, drop}
use Rattle.std.specs.declared.ops.Range.{Range}
use Rattle.journal.specs.declared.calls.Part.{Part}

-- the places of a part
abbrev pub part_of : {A : Type 0} → Part → List A → List A
part_of p xs = take p.places (drop p.from xs)

-- the list has the part
abbrev pub Fits : {A : Type 0} → Part → List A → Type 0
Fits p xs = p.from + p.places ≤ length xs

-- r is the range of the places of the part, in a list of so many
pub record Within (p : Part) (room : ℕ) (r : Range ℕ) : Type 0 where
  pub starts : r.start ≡ p.from
  pub ends : r.end ≡ p.from + p.places
  pub fits : p.from + p.places ≤ room

-- the list is as long as it was, and only the part may have changed
pub record Around {A : Type 0} (p : Part) (old new : List A) : Type 0 where
  pub long : length new ≡ length old
  pub before : take p.from new ≡ take p.from old
  pub after : drop (p.from + p.places) new ≡ drop (p.from + p.places) old
