-- A list of entries, one for each key that a half-face has, and what making an index of them comes to.
use Rattle.std.specs.Prelude.{◌≡◌, ℕ, ◌<◌, List, [], length, drop, Result, slice_index_or}
use Rattle.std.specs.declared.cmp.Ordering.{Ordering}
use Rattle.refusal.specs.declared.Refusal.{Refusal}
use Rattle.refusal.specs.declared.Refusal.TheVariants.{ListTooShort}
use Rattle.refusal.specs.Causes.{Outcome}
use Rattle.index.specs.declared.entry.Entry.{Entry}
use Rattle.index.specs.Entries.{Rising}
use Rattle.index.specs.Held.{Held}

-- Has k h: the half-face h has the key k. Rather x g: of two that have it, x stands for it rather than g, or is g.
module _ {K : Type 0} (Has : K → ℕ → Type 0) (Rather : ℕ → ℕ → Type 0) where
  -- x has the key k, and of all that have it, it stands for it
  pub record Names (k : K) (x : ℕ) : Type 0 where
    pub has : Has k x
    pub rather : (g : ℕ) → Has k g → Rather x g

  -- rising entries, one for each key that a half-face has, and nothing else
  pub record OneEach (order : K → K → Ordering) (es : List (Entry K)) : Type 0 where
    pub rising : Rising order es
    pub sound : (i : ℕ) (d : Entry K) → i < length es → Names (slice_index_or es i d).key (slice_index_or es i d).half_face
    pub whole : (k : K) (h : ℕ) → Has k h → (i : ℕ) × (i < length es) × ((d : Entry K) → (slice_index_or es i d).key ≡ k)

-- why no index of the right entries is made in so many places: there are more of them
pub data IndexCause {K : Type 0} (Right : List (Entry K) → Type 0) (places : ℕ) : Refusal → Type 0 where
  short : {es : List (Entry K)} → Right es → places < length es → IndexCause Right places ListTooShort

-- An index is made over places: its entries are right and counted, and the places after them are untouched;
-- or there are too few, and it is empty over the places as they were.
abbrev pub Makes : {K : Type 0} → (List (Entry K) → Type 0) → List (Entry K) → Result ℕ Refusal → Held K → Type 0
Makes Right places = Outcome (IndexCause Right (length places)) (λ n index. Right index.entries × (n ≡ length index.entries) × (index.free ≡ drop n places)) (record { entries = []; free = places })
