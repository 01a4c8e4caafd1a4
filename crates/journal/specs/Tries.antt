-- A change and a question, tried on a ground with the lists of a desk.
use Rattle.std.specs.Prelude.{true, false}
use Rattle.rules.specs.PlainList.{Plain}
use Rattle.journal.specs.declared.calls.Change.{Change}
use Rattle.journal.specs.declared.calls.Question.{Question}
use Rattle.journal.specs.declared.desk.Desk.{Desk}
use Rattle.journal.specs.Answers.{Came}
use Rattle.journal.specs.States.{standing, State, state_of}
use Rattle.journal.specs.Steps.{GivesParts, HasParts, Altered, Asked, Tried}

-- the change c of an open ground
abbrev pub AltersState : {M : Type 0} → Change → Came → State M → State M → Type 0
AltersState c a s s' = Tried (GivesParts s.turns s.marks c) (Altered s c a s') a s s'

abbrev pub Alters : {M : Type 0} → Plain → Desk M → Change → Came → Plain → Desk M → Type 0
Alters p d c a p' d' = AltersState c a (state_of (standing false p) d) (state_of (standing false p') d')

-- the question q of a sealed ground
abbrev pub AsksState : {M : Type 0} → Question → Came → State M → State M → Type 0
AsksState q a s s' = Tried (HasParts s q) (Asked s q a s') a s s'

abbrev pub Asks : {M : Type 0} → Plain → Desk M → Question → Came → Desk M → Type 0
Asks p d q a d' = AsksState q a (state_of (standing true p) d) (state_of (standing true p) d')
