-- What the inner steps of the writer do. No contract of a public call draws on this.
use Rattle.std.specs.Prelude.{◌≡◌, ℕ, ◌+◌, List, ◌++◌, length, take, drop}

-- the bytes were written from the place at, up to the place next, and no place from there on changed
pub record Put (old new : List ℕ) (at : ℕ) (bytes : List ℕ) (next : ℕ) : Type 0 where
  pub end : next ≡ at + length bytes
  pub front : take next new ≡ take at old ++ bytes
  pub back : drop next new ≡ drop next old
