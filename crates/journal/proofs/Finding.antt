-- What is found in an index that was made over places.
use Rattle.std.proofs.Common.{◌≡◌, ℕ, ◌≤◌, List, length, take, replicate, Ok, Option, Ordering, sym, subst, length-take-le}
use lib.ListN.{length-replicate}
use Rattle.index.specs.declared.entry.Entry.{Entry}
use Rattle.index.specs.Entries.{half_face_of}
use Rattle.index.specs.Held.{Held}
use Rattle.indexes.specs.Lists.{Makes}
use Rattle.journal.specs.Steps.{TellsFound}

-- so many of a list of free places
pub enough : {A : Type 0} (n : ℕ) (x : A) (places : ℕ) → places ≤ n → length (take places (replicate n x)) ≡ places
enough n x places l = length-take-le places (replicate n x) (subst (λ (m : ℕ). places ≤ m) (sym (length-replicate n x)) l)

module _ {K : Type 0} (Right : List (Entry K) → Type 0) (order : K → K → Ordering) (k : K) (places : ℕ) (free : List (Entry K)) (same : length free ≡ places) (h : Held K) where
  pub found : (n : ℕ) (o : Option ℕ) → Makes Right free (Ok n) h → o ≡ half_face_of order k h.entries → TellsFound Right order k places (Ok o)
  found n o m e = subst (λ (l : ℕ). TellsFound Right order k l (Ok o)) same (m.0, (h.entries, m.1.0, e))
