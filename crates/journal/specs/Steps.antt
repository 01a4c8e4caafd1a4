-- What one call does to a ground and to the lists of its caller. Each call is measured by the relation that its own contract cites.
use Rattle.std.specs.Prelude.{◌≡◌, ℕ, ◌≤◌, Bool, true, false, List, Some, None, Ok, Option, Result}
use Rattle.std.specs.declared.cmp.Ordering.{Ordering}
use Rattle.refusal.specs.declared.Refusal.{Refusal}
use Rattle.refusal.specs.Causes.{Answered}
use Rattle.carry.specs.declared.turn.Turn.{Turn}
use Rattle.carry.specs.Kinds.{Kind}
use Rattle.carry.specs.Turns.{turn_meaning, turn_kind}
use Rattle.carry.specs.Corners.{corner_meaning}
use Rattle.carry.specs.Digits.{corner_kind}
use Rattle.carry.specs.Webs.{Web}
use Rattle.carry.specs.Carrying.{Carried}
use Rattle.rules.specs.Rows.{row}
use Rattle.rules.specs.PlainList.{Plain, Lays, Lifts, Turns}
use Rattle.rules.specs.Orients.{Orients}
use Rattle.rules.specs.Questions.{Counted as CountsAre, TellsReading, TellsOpposite, TellsStar, TellsEdgeStar, TellsSkin}
use Rattle.rules.specs.Soundness.{TellsEdgeSound, TellsVertexSound}
use Rattle.rules.specs.Nets.{TurnWeb, CornerWeb}
use Rattle.rules.specs.SkinNets.{SkinWeb}
use Rattle.mates.specs.declared.side.EdgeSide.{EdgeSide}
use Rattle.mates.specs.Mating.{TellsMate}
use Rattle.index.specs.declared.entry.Entry.{Entry}
use Rattle.index.specs.Entries.{half_face_of}
use Rattle.index.specs.Keys.{triple_order, pair_order}
use Rattle.indexes.specs.Lists.{IndexCause}
use Rattle.indexes.specs.Faces.{FaceEntries}
use Rattle.indexes.specs.Edges.{EdgeEntries}
use Rattle.ground.specs.declared.counts.Counts.{Counts}
use Rattle.journal.specs.declared.calls.Part.{Part}
use Rattle.journal.specs.declared.calls.Change.{Change as AChange}
use Rattle.journal.specs.declared.calls.Change.TheVariants.{Lay, Lift, Turn as TurnCell, Orient}
use Rattle.journal.specs.declared.calls.Question.{Question}
use Rattle.journal.specs.declared.calls.Question.TheVariants.{Counts as AskCounts, Changes, Reading, Opposite, Mate, Star, EdgeStar, Skin, EdgeSound, VertexSound, FindFace, FindEdge, CarryTurns, CarryCorners, CarrySkin}
use Rattle.journal.specs.declared.calls.Call.{Call}
use Rattle.journal.specs.declared.calls.Call.TheVariants.{Change, Seal, Reopen, Ask, Carry}
use Rattle.journal.specs.declared.calls.Answer.TheVariants.{Number, Done, Counted, Reads, Told, Mate as MateIs, Sound}
use Rattle.journal.specs.declared.calls.Exchange.{Exchange}
use Rattle.journal.specs.Parts.{part_of, Fits, Around}
use Rattle.journal.specs.Answers.{Came, replied}
use Rattle.journal.specs.States.{standing, Given, State, with_ground, with_turns, with_corners, with_labels, with_numbers}

-- CHANGES

-- what lay, lift, turn and orient do to the plain list p; orient is handed labels xs and marks ms, and leaves xs' and ms'
pub data Changed (p : Plain) (q : Plain) : AChange → List Turn → List ℕ → Came → List Turn → List ℕ → Type 0 where
  lays : {a b c d : ℕ} {xs : List Turn} {ms : List ℕ} (r : Result ℕ Refusal) → Lays p (row a b c d) r q → Changed p q (Lay a b c d) xs ms (replied Number r) xs ms
  lifts : {t : ℕ} {xs : List Turn} {ms : List ℕ} (r : Result (Unit {0}) Refusal) → Lifts p t r q → Changed p q (Lift t) xs ms (replied (λ _. Done) r) xs ms
  turns : {t : ℕ} {xs : List Turn} {ms : List ℕ} (r : Result (Unit {0}) Refusal) → Turns p t r q → Changed p q (TurnCell t) xs ms (replied (λ _. Done) r) xs ms
  orients : {k m : Part} {xs xs' : List Turn} {ms ms' : List ℕ} (r : Result ℕ Refusal) → Orients p (part_of k xs) (part_of m ms) r q (part_of k xs') (part_of m ms') → Around k xs xs' → Around m ms ms'
      → Changed p q (Orient k m) xs ms (replied Number r) xs' ms'

-- QUESTIONS

-- carry over a net with the meaning w, handed parts of the labels xs and of the marks ms
pub record Carries {M : Type 0} (w : Web) (kind : Kind) (meaning : M → ℕ) (k m : Part) (xs : List M) (ms : List ℕ) (a : Came) (xs' : List M) (ms' : List ℕ) : Type 0 where
  pub result : Result ℕ Refusal
  pub answer : a ≡ replied Number result
  pub carried : Carried w kind meaning (part_of k xs) (part_of m ms) (part_of k xs') (part_of m ms') result
  pub labels : Around k xs xs'
  pub marks : Around m ms ms'

-- a list question is handed a part of the numbers ns: Tells is what it makes of the part
pub record Lists (Tells : List ℕ → Result ℕ Refusal → List ℕ → Type 0) (k : Part) (ns : List ℕ) (a : Came) (ns' : List ℕ) : Type 0 where
  pub result : Result ℕ Refusal
  pub answer : a ≡ replied Number result
  pub tells : Tells (part_of k ns) result (part_of k ns')
  pub rest : Around k ns ns'

-- the half-face that an index of the right entries, made over so many places, has for the key k, or none
abbrev pub TellsFound : {K : Type 0} → (List (Entry K) → Type 0) → (K → K → Ordering) → K → ℕ → Result (Option ℕ) Refusal → Type 0
TellsFound {K = K} Right order k places = Answered (IndexCause Right places) (λ o. (es : List (Entry K)) × Right es × (o ≡ half_face_of order k es))

-- what a question is answered
abbrev pub Asked : {M : Type 0} → State M → Question → Came → State M → Type 0
Asked s AskCounts a s' = (n : Counts) × (a ≡ Some (Ok (Counted n))) × CountsAre s.ground.plain.list n.cells n.joined n.skin × (s' ≡ s)
Asked s Changes a s' = (a ≡ Some (Ok (Number s.ground.plain.changes))) × (s' ≡ s)
Asked s (Reading h) a s' = (r : Result (List ℕ) Refusal) × (a ≡ replied Reads r) × TellsReading s.ground.plain.list h r × (s' ≡ s)
Asked s (Opposite h) a s' = (r : Result (Option ℕ) Refusal) × (a ≡ replied Told r) × TellsOpposite s.ground.plain.list h r × (s' ≡ s)
Asked s (Mate h e) a s' = (r : Result EdgeSide Refusal) × (a ≡ replied MateIs r) × TellsMate s.ground.plain.list h e r × (s' ≡ s)
Asked s (Star v k) a s' = Lists (TellsStar s.ground.plain.list v) k s.numbers a s'.numbers × (s' ≡ with_numbers s s'.numbers)
Asked s (EdgeStar v w k) a s' = Lists (TellsEdgeStar s.ground.plain.list v w) k s.numbers a s'.numbers × (s' ≡ with_numbers s s'.numbers)
Asked s (Skin k) a s' = Lists (TellsSkin s.ground.plain.list) k s.numbers a s'.numbers × (s' ≡ with_numbers s s'.numbers)
Asked s (EdgeSound v w) a s' = (r : Result Bool Refusal) × (a ≡ replied Sound r) × TellsEdgeSound s.ground.plain.list v w r × (s' ≡ s)
Asked s (VertexSound v) a s' = (r : Result Bool Refusal) × (a ≡ replied Sound r) × TellsVertexSound s.ground.plain.list v r × (s' ≡ s)
Asked s (FindFace k places) a s' = (r : Result (Option ℕ) Refusal) × (a ≡ replied Told r) × TellsFound (FaceEntries s.ground.plain.list) triple_order k places r × (s' ≡ s)
Asked s (FindEdge k places) a s' = (r : Result (Option ℕ) Refusal) × (a ≡ replied Told r) × TellsFound (EdgeEntries s.ground.plain.list) pair_order k places r × (s' ≡ s)
Asked s (CarryTurns k m) a s' = (w : Web) × TurnWeb s.ground.plain.list w × Carries w turn_kind turn_meaning k m s.turns s.marks a s'.turns s'.marks × (s' ≡ with_turns s s'.turns s'.marks)
Asked s (CarryCorners k m) a s' = (w : Web) × CornerWeb s.ground.plain.list w × Carries w corner_kind corner_meaning k m s.corners s.marks a s'.corners s'.marks × (s' ≡ with_corners s s'.corners s'.marks)
Asked s (CarrySkin k m) a s' = (w : Web) × SkinWeb s.ground.plain.list w × Carries w turn_kind turn_meaning k m s.turns s.marks a s'.turns s'.marks × (s' ≡ with_turns s s'.turns s'.marks)

-- CALLS

-- the lists have the parts that a call is handed
abbrev pub HasParts : {M : Type 0} → State M → Question → Type 0
HasParts s AskCounts = Unit {0}
HasParts s Changes = Unit {0}
HasParts s (Reading h) = Unit {0}
HasParts s (Opposite h) = Unit {0}
HasParts s (Mate h e) = Unit {0}
HasParts s (Star v k) = Fits k s.numbers
HasParts s (EdgeStar v w k) = Fits k s.numbers
HasParts s (Skin k) = Fits k s.numbers
HasParts s (EdgeSound v w) = Unit {0}
HasParts s (VertexSound v) = Unit {0}
HasParts s (FindFace k places) = places ≤ 4096
HasParts s (FindEdge k places) = places ≤ 12288
HasParts s (CarryTurns k m) = Fits k s.turns × Fits m s.marks
HasParts s (CarryCorners k m) = Fits k s.corners × Fits m s.marks
HasParts s (CarrySkin k m) = Fits k s.turns × Fits m s.marks

abbrev pub GivesParts : List Turn → List ℕ → AChange → Type 0
GivesParts xs ms (Lay a b c d) = Unit {0}
GivesParts xs ms (Lift t) = Unit {0}
GivesParts xs ms (TurnCell t) = Unit {0}
GivesParts xs ms (Orient k m) = Fits k xs × Fits m ms

-- the ground allows the call, open or sealed, and the lists have the parts that it is handed
abbrev pub Allowed : {M : Type 0} → State M → Call → Type 0
Allowed s (Change c) = (s.ground.sealed ≡ false) × GivesParts s.turns s.marks c
Allowed s Seal = s.ground.sealed ≡ false
Allowed s Reopen = s.ground.sealed ≡ true
Allowed s (Ask q) = (s.ground.sealed ≡ true) × HasParts s q
Allowed s (Carry k m) = Fits k s.labels × Fits m s.marks

-- the ground sealed or reopened, and nothing else
abbrev pub staged : {M : Type 0} → State M → Bool → State M
staged s b = with_ground s (standing b s.ground.plain)

-- a change of an open ground
abbrev pub Altered : {M : Type 0} → State M → AChange → Came → State M → Type 0
Altered s c a s' =
    Changed s.ground.plain s'.ground.plain c s.turns s.marks a s'.turns s'.marks
    × (s' ≡ with_turns (with_ground s (standing false s'.ground.plain)) s'.turns s'.marks)

-- what a call that is allowed does; e is the caller's net
abbrev pub Does : {M : Type 0} → Given M → State M → Call → Came → State M → Type 0
Does e s (Change c) a s' = Altered s c a s'
Does e s Seal a s' = (a ≡ Some (Ok Done)) × (s' ≡ staged s true)
Does e s Reopen a s' = (a ≡ Some (Ok Done)) × (s' ≡ staged s false)
Does e s (Ask q) a s' = Asked s q a s'
Does e s (Carry k m) a s' = Carries e.web e.kind e.meaning k m s.labels s.marks a s'.labels s'.marks × (s' ≡ with_labels s s'.labels s'.marks)

-- A call that is made where something Allows it; else it is marked as not made, and all is as it was.
pub data Tried {S : Type 0} (Allows Made : Type 0) (a : Came) (s s' : S) : Type 0 where
  makes : Allows → Made → Tried Allows Made a s s'
  passes : (Allows → ⊥) → a ≡ None → s' ≡ s → Tried Allows Made a s s'

-- One call with its answer.
abbrev pub Step : {M : Type 0} → Given M → State M → Exchange → State M → Type 0
Step e s x s' = Tried (Allowed s x.call) (Does e s x.call x.reply s') x.reply s s'
