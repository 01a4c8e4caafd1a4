-- How an order is written: a letter, then its numbers, each after one space. Byte 10 ends its line and is no part of it.
use Rattle.std.specs.Prelude.{ℕ, ◌<◌, List, [], ◌∷◌, ◌++◌, codes, decimal, slice_index}
use Prim.Native.String.{String}
use Rattle.worklist.specs.declared.order.Order.{Order}
use Rattle.worklist.specs.declared.order.Order.TheVariants.{Lay, Lift, Turn, Orient, CellsAtVertex, CellsAtEdge, Counts, Close}

-- the first byte of a text
abbrev byte : String → ℕ
byte s = slice_index (codes s) 0

-- the numbers, in decimal digits, each after one space, byte 32
abbrev pub spaced : List ℕ → List ℕ
spaced [] = []
spaced (n ∷ ns) = 32 ∷ (decimal n ++ spaced ns)

abbrev pub letter_of : Order → ℕ
letter_of (Lay a b c d) = byte "L"
letter_of (Lift t) = byte "X"
letter_of (Turn t) = byte "T"
letter_of Orient = byte "O"
letter_of (CellsAtVertex v) = byte "K"
letter_of (CellsAtEdge v w) = byte "E"
letter_of Counts = byte "S"
letter_of (Close n) = byte "Z"

abbrev pub numbers_of : Order → List ℕ
numbers_of (Lay a b c d) = a ∷ b ∷ c ∷ d ∷ []
numbers_of (Lift t) = t ∷ []
numbers_of (Turn t) = t ∷ []
numbers_of Orient = []
numbers_of (CellsAtVertex v) = v ∷ []
numbers_of (CellsAtEdge v w) = v ∷ w ∷ []
numbers_of Counts = []
numbers_of (Close n) = n ∷ []

-- the line of an order, without its byte 10
abbrev pub line_of : Order → List ℕ
line_of o = letter_of o ∷ spaced (numbers_of o)

-- the lines of these orders, each with its byte 10
abbrev pub written : List Order → List ℕ
written [] = []
written (o ∷ os) = line_of o ++ (10 ∷ written os)

-- each is at most 65,535
abbrev pub Small : List ℕ → Type 0
Small [] = Unit {0}
Small (n ∷ ns) = (n < 65536) × Small ns
