-- The number of each refusal.
use Rattle.std.specs.Prelude.{ℕ}
use Rattle.refusal.specs.declared.Refusal.{Refusal}
use Rattle.refusal.specs.declared.Refusal.TheVariants.{VertexTooHigh, VerticesEqual, ListTooShort, EdgePlaceTooHigh, LineMalformed, WronglyClosed, TextTooLong, NoFreePlace, CellPresent, TriangleTaken, NoSuchNumber, NoLabelsAgree, InNoCell, HalfFaceJoined}

abbrev pub number_of : Refusal → ℕ
number_of VertexTooHigh = 1
number_of VerticesEqual = 2
number_of ListTooShort = 3
number_of EdgePlaceTooHigh = 4
number_of LineMalformed = 5
number_of WronglyClosed = 6
number_of TextTooLong = 7
number_of NoFreePlace = 11
number_of CellPresent = 12
number_of TriangleTaken = 13
number_of NoSuchNumber = 14
number_of NoLabelsAgree = 15
number_of InNoCell = 16
number_of HalfFaceJoined = 17
