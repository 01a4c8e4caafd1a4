-- What came of a call, as a line of a journal has it.
use Rattle.std.specs.Prelude.{Ok, Err, Option, Some, Result}
use Rattle.refusal.specs.declared.Refusal.{Refusal}
use Rattle.journal.specs.declared.calls.Answer.{Answer}

-- an answer or a refusal, or none where the call was not made
abbrev pub Came : Type 0
Came = Option (Result Answer Refusal)

-- of a call that returned r, which is told as an answer by tell
abbrev pub replied : {A : Type 0} → (A → Answer) → Result A Refusal → Came
replied tell (Ok x) = Some (Ok (tell x))
replied tell (Err c) = Some (Err c)
