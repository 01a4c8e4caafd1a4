-- What an index holds, and what a put does to it.
use Rattle.std.specs.Prelude.{◌≡◌, ℕ, ◌-◌, List, [], length, take, drop, Some, None, Result, ◌≢◌}
use Rattle.std.specs.declared.cmp.Ordering.{Ordering}
use Rattle.refusal.specs.declared.Refusal.{Refusal}
use Rattle.refusal.specs.declared.Refusal.TheVariants.{ListTooShort}
use Rattle.refusal.specs.Causes.{Outcome}
use Rattle.index.specs.declared.entry.Entry.{Entry}
use Rattle.index.specs.declared.container.Index.{Index}
use Rattle.index.specs.declared.key.Key
use Rattle.index.specs.Entries.{Rising, put_in, half_face_of}

-- entries and the free places behind them: together all the places, in order
pub record Held (K : Type 0) : Type 0 where
  pub entries : List (Entry K)
  pub free : List (Entry K)

-- the first n of the places hold entries
abbrev pub parted : {K : Type 0} → ℕ → List (Entry K) → Held K
parted n places = record { entries = take n places; free = drop n places }

-- what an index of keys with an order holds
abbrev pub held : {K : Type 0} {order : Key.Ghosts K} → Index K order → Held K
held index = parted index.taken index.places.now

module _ {K : Type 0} (order : K → K → Ordering) where
  -- why an entry cannot be put: its key is new and no place is free
  pub data PutCause (e : Entry K) (h : Held K) : Refusal → Type 0 where
    full : half_face_of order e.key h.entries ≡ None → h.free ≡ [] → PutCause e h ListTooShort

  -- the entry is put in: its key has its half-face, every other key has what it had, the list rises as
  -- before, and only the place that the entries grew by is no longer free
  pub record Stored (e : Entry K) (before after : Held K) : Type 0 where
    pub entries : after.entries ≡ put_in order e before.entries
    pub free : after.free ≡ drop (length after.entries - length before.entries) before.free
    pub rising : Rising order after.entries
    pub put : half_face_of order e.key after.entries ≡ Some e.half_face
    pub others : (k : K) → (k ≢ e.key) → half_face_of order k after.entries ≡ half_face_of order k before.entries

  -- a put, of which r is the answer: where there is room the entry is put in, else nothing changes
  abbrev pub Put : Entry K → Held K → Result Unit Refusal → Held K → Type 0
  Put e before r after = Outcome (PutCause e before) (λ _. Stored e before) before r after
