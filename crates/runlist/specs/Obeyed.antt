-- What an order does to the plain list, and the bytes of the line that answers it.
use Rattle.std.specs.Prelude.{◌≡◌, ℕ, List, [], ◌∷◌, length, Ok, Err, codes, Result}
use Rattle.refusal.specs.declared.Refusal.{Refusal}
use Rattle.refusal.specs.Numbers.{number_of}
use Rattle.refusal.specs.Causes.{Answered}
use Rattle.carry.specs.declared.turn.Turn.{Turn}
use Rattle.rules.specs.Rows.{row}
use Rattle.rules.specs.Listings.{Listing}
use Rattle.rules.specs.PlainList.{Plain, Lays, Lifts, Turns}
use Rattle.rules.specs.Orients.{Orients}
use Rattle.rules.specs.Questions.{Counted, AtVertex, AtEdge, StarCause, EdgeStarCause}
use Rattle.worklist.specs.declared.order.Order.{Order}
use Rattle.worklist.specs.declared.order.Order.TheVariants.{Lay, Lift, Turn as TurnCell, Orient, CellsAtVertex, CellsAtEdge, Counts, Close}
use Rattle.worklist.specs.AnswerLines.{said, Lined}

-- "ok" with the numbers of the answer, or "no" with the number of the refusal
abbrev pub answer : {A : Type 0} → (A → List ℕ) → Result A Refusal → List ℕ
answer numbers (Ok a) = said (codes "ok") (numbers a)
answer numbers (Err c) = said (codes "no") (number_of c ∷ [])

-- orient, handed n labels and n marks
abbrev pub OrientsWith : ℕ → Plain → Result ℕ Refusal → Plain → Type 0
OrientsWith n p r q = (xs xs' : List Turn) × (ms ms' : List ℕ) × (length xs ≡ n) × (length ms ≡ n) × Orients p xs ms r q xs' ms'

-- The order turns the plain list p into q, and these bytes answer it. Orient is handed 1,024 labels and marks, and stars are listed in 1,024 places.
abbrev pub Obeyed : Order → Plain → Plain → List ℕ → Type 0
Obeyed (Lay a b c d) p q bytes = (r : Result ℕ Refusal) × Lays p (row a b c d) r q × (bytes ≡ answer (λ n. n ∷ []) r)
Obeyed (Lift t) p q bytes = (r : Result (Unit {0}) Refusal) × Lifts p t r q × (bytes ≡ answer (λ _. []) r)
Obeyed (TurnCell t) p q bytes = (r : Result (Unit {0}) Refusal) × Turns p t r q × (bytes ≡ answer (λ _. []) r)
Obeyed Orient p q bytes = (r : Result ℕ Refusal) × OrientsWith 1024 p r q × (bytes ≡ answer (λ n. n ∷ []) r)
Obeyed (CellsAtVertex v) p q bytes = (r : Result (List ℕ) Refusal) × Answered (StarCause p.list v 1024) (Listing (AtVertex p.list v)) r × (q ≡ p) × (bytes ≡ answer (λ ts. ts) r)
Obeyed (CellsAtEdge v w) p q bytes = (r : Result (List ℕ) Refusal) × Answered (EdgeStarCause p.list v w 1024) (Listing (AtEdge p.list v w)) r × (q ≡ p) × (bytes ≡ answer (λ ts. ts) r)
Obeyed Counts p q bytes = (c j s : ℕ) × Counted p.list c j s × (q ≡ p) × (bytes ≡ said (codes "ok") (c ∷ j ∷ s ∷ []))
Obeyed (Close n) p q bytes = (q ≡ p) × (bytes ≡ [])

-- the order is carried out, and the bytes that answer it are written into the line, if they fit
abbrev pub Said : Order → Plain → Plain → List ℕ → List ℕ → Result ℕ Refusal → Type 0
Said o p q old new r = (bytes : List ℕ) × Obeyed o p q bytes × Lined bytes old new r
