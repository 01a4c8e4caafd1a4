-- What the inner steps of the reader answer. No contract of a public call draws on this.
use Rattle.std.specs.Prelude.{◌≡◌, ℕ, ◌+◌, ◌-◌, ◌*◌, ◌<◌, List, [], ◌∷◌, ◌++◌, length, Some, None, Ok, Err, decimal, Option, Result, ◌≢◌, slice_index}
use Rattle.std.specs.Borrow.{Bor}
use Rattle.refusal.specs.declared.Refusal.{Refusal}
use Rattle.worklist.specs.declared.order.Order.{Order}
use Rattle.worklist.specs.declared.order.Order.TheVariants.{Close}
use Rattle.worklist.specs.Lists.{Begins, Next, LineFault}
use Rattle.worklist.specs.Written.{line_of, numbers_of, spaced, Small}

-- the number that digits write after those that wrote n
abbrev pub read_on : ℕ → List ℕ → ℕ
read_on n [] = n
read_on n (c ∷ cs) = read_on (n * 10 + (c - 48)) cs

-- r is the number that the bytes s write, if they write one
abbrev pub Reads : List ℕ → Option ℕ → Type 0
Reads s None = (n : ℕ) → n < 65536 → s ≢ decimal n
Reads s (Some n) = (s ≡ decimal n) × (n < 65536)

-- r is the order that the bytes s write, if they write one
abbrev pub Says : List ℕ → Option Order → Type 0
Says s None = (o : Order) → Small (numbers_of o) → s ≢ line_of o
Says s (Some o) = (s ≡ line_of o) × Small (numbers_of o)

-- no place of s holds the byte b
abbrev pub Lacks : ℕ → List ℕ → Type 0
Lacks b s = (k : ℕ) → k < length s → slice_index s k ≢ b

-- b first stands at the place i of s
pub record FirstAt (b : ℕ) (s : List ℕ) (i : ℕ) : Type 0 where
  pub within : i < length s
  pub before : (k : ℕ) → k < i → slice_index s k ≢ b
  pub here : slice_index s i ≡ b

-- s is cut into a, which has no space, and b, which is empty or begins with one
pub record Cut (s a b : List ℕ) : Type 0 where
  pub whole : s ≡ a ++ b
  pub plain : Lacks 32 a
  pub seam : 0 < length b → slice_index b 0 ≡ 32

-- s is a space, the number n and more, which is empty or begins with a space
pub record Leads (s : List ℕ) (n : ℕ) (more : List ℕ) : Type 0 where
  pub whole : s ≡ 32 ∷ (decimal n ++ more)
  pub seam : 0 < length more → slice_index more 0 ≡ 32
  pub small : n < 65536

abbrev pub NoneLeads : List ℕ → Type 0
NoneLeads s = (n : ℕ) (more : List ℕ) → Leads s n more → ⊥

-- s writes these numbers
abbrev pub Numbers : List ℕ → List ℕ → Type 0
Numbers s ns = (s ≡ spaced ns) × Small ns

-- s does not write k numbers
abbrev pub NoNumbers : ℕ → List ℕ → Type 0
NoNumbers k s = (ns : List ℕ) → Small ns → length ns ≡ k → s ≢ spaced ns

-- a is the first line of the text, without its byte 10, and rest what follows that byte
pub record Ended (text a rest : List ℕ) : Type 0 where
  pub whole : text ≡ a ++ (10 ∷ rest)
  pub plain : Lacks 10 a

-- what the line at the front of rest is, with this many lines before it: an order to run, and what follows it;
-- the end of the list, as it should be; or wrong
abbrev pub Judged : ℕ → List ℕ → Result (Option (Bor (List ℕ))) Refusal → Type 0
Judged before rest (Ok (Some more)) = (o : Order) × Next rest o more.now
Judged before rest (Ok None) = Begins rest (Close before) []
Judged before rest (Err c) = LineFault before rest c
