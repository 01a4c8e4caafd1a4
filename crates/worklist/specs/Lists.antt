-- What a work list is, what turns a text down, and what is left to run of a list.
use Rattle.std.specs.Prelude.{◌≡◌, ℕ, ◌+◌, ◌<◌, ◌≤◌, List, [], ◌∷◌, ◌++◌, length, Ok, Err, Result, ◌≢◌}
use Rattle.refusal.specs.declared.Refusal.{Refusal}
use Rattle.refusal.specs.declared.Refusal.TheVariants.{LineMalformed, WronglyClosed, TextTooLong}
use Rattle.worklist.specs.declared.order.Order.{Order}
use Rattle.worklist.specs.declared.order.Order.TheVariants.{Close}
use Rattle.worklist.specs.declared.fault.Fault.{Fault}
use Rattle.worklist.specs.Written.{line_of, numbers_of, written, Small}

-- the first line of the text writes the order o, and rest follows it
pub record Begins (text : List ℕ) (o : Order) (rest : List ℕ) : Type 0 where
  pub whole : text ≡ line_of o ++ (10 ∷ rest)
  pub small : Small (numbers_of o)

-- the first line of the text, if there is one, writes no order
abbrev pub NoneBegins : List ℕ → Type 0
NoneBegins text = (o : Order) (rest : List ℕ) → Begins text o rest → ⊥

-- an order to run: it does not close the list
abbrev pub Runs : Order → Type 0
Runs o = (n : ℕ) → o ≢ Close n

abbrev pub AllRun : List Order → Type 0
AllRun [] = Unit {0}
AllRun (o ∷ os) = Runs o × Small (numbers_of o) × AllRun os

-- the first lines of the text write the orders os, all of them to run, and rest follows
pub record Reaches (text : List ℕ) (os : List Order) (rest : List ℕ) : Type 0 where
  pub whole : text ≡ written os ++ rest
  pub running : AllRun os

-- the text is a work list of the orders os: their lines, and the line that closes the list and says how many they are
pub record Closed (text : List ℕ) (os : List Order) : Type 0 where
  pub short : length text ≤ 65536
  pub lines : Reaches text os (written (Close (length os) ∷ []))

-- What is wrong with the line at the front of rest, with this many lines before it.
pub data LineFault (before : ℕ) (rest : List ℕ) : Refusal → Type 0 where
  -- there is a line, or a piece of one, and it writes no order
  malformed : 0 < length rest → NoneBegins rest → LineFault before rest LineMalformed
  -- the text ends with no line that closes the list
  missing : rest ≡ [] → LineFault before rest WronglyClosed
  -- the line closes the list, and says another number
  miscounted : (n : ℕ) (more : List ℕ) → Begins rest (Close n) more → (n ≢ before) → LineFault before rest WronglyClosed
  -- the line closes the list, and more follows
  early : (n : ℕ) (more : List ℕ) → Begins rest (Close n) more → 0 < length more → LineFault before rest WronglyClosed

-- The text is turned down for this reason, at this line: all lines before it are orders to run, and it is wrong.
pub data TurnedDown (text : List ℕ) : Refusal → ℕ → Type 0 where
  long : 65536 < length text → TurnedDown text TextTooLong 0
  faulty : (c : Refusal) (os : List Order) (rest : List ℕ) → length text ≤ 65536 → Reaches text os rest → LineFault (length os) rest c → TurnedDown text c (length os + 1)

-- the number of orders of a work list, or the first faulty line of another text
abbrev pub Checked : List ℕ → Result ℕ Fault → Type 0
Checked text (Ok n) = (os : List Order) × Closed text os × (n ≡ length os)
Checked text (Err f) = TurnedDown text f.refusal f.line

-- A text is read in one way only: as a list of the same orders, or as turned down for the same reason at the same line.
pub record Once (text : List ℕ) : Type 0 where
  pub orders : (os ps : List Order) → Closed text os → Closed text ps → os ≡ ps
  pub fault : (c d : Refusal) (k j : ℕ) → TurnedDown text c k → TurnedDown text d j → (c ≡ d) × (k ≡ j)
  pub either : (os : List Order) (c : Refusal) (k : ℕ) → Closed text os → TurnedDown text c k → ⊥

-- the orders os are still to run, and then comes the line that closes the list
abbrev pub ToRun : List ℕ → List Order → Type 0
ToRun rest os = (m : ℕ) × (m < 65536) × Reaches rest os (written (Close m ∷ []))

-- the first line of rest writes the order o, which is to run, and more follows it
abbrev pub Next : List ℕ → Order → List ℕ → Type 0
Next rest o more = Begins rest o more × Runs o

abbrev pub NoneNext : List ℕ → Type 0
NoneNext rest = (o : Order) (more : List ℕ) → Next rest o more → ⊥
