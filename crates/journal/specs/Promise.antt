-- What whoever makes a ground and then only calls it is promised.
use Rattle.std.specs.Prelude.{◌≡◌, ℕ, ◌<◌, ◌≤◌, Bool, true, false, cond, ◌↔◌, List, [], ◌∷◌, ◌++◌, map, length, Some, None, Ok, Err, Result, ◌≢◌, slice_index}
use Rattle.refusal.specs.declared.Refusal.{Refusal}
use Rattle.refusal.specs.declared.Refusal.TheVariants.{NoLabelsAgree}
use Rattle.carry.specs.declared.turn.Turn.{Turn}
use Rattle.carry.specs.declared.corner.Corner.{Corner}
use Rattle.carry.specs.Agreement.{Agrees, Grounded}
use Rattle.carry.specs.Carrying.{Carried}
use Rattle.rules.specs.Joins.{Half, Joined, NoThree, LawfulRows}
use Rattle.rules.specs.PlainList.{Plain}
use Rattle.rules.specs.Orients.{Orients, RefusedExactly}
use Rattle.rules.specs.Questions.{TellsOpposite}
use Rattle.rules.specs.Nets.{AllOpposed, TurnsMeant}
use Rattle.rules.specs.Mates.{MatesOpposed}
use Rattle.journal.specs.declared.calls.Part.{Part}
use Rattle.journal.specs.declared.calls.Change.{Change as AChange}
use Rattle.journal.specs.declared.calls.Change.TheVariants.{Lay, Turn as TurnCell, Orient}
use Rattle.journal.specs.declared.calls.Call.{Call}
use Rattle.journal.specs.declared.calls.Call.TheVariants.{Change, Seal, Reopen, Ask, Carry}
use Rattle.journal.specs.declared.calls.Answer.TheVariants.{Number, Done}
use Rattle.journal.specs.declared.calls.Exchange.{Exchange}
use Rattle.journal.specs.Answers.{Came}
use Rattle.journal.specs.States.{Ground, made, Given, State}
use Rattle.journal.specs.Steps.{Changed, GivesParts}
use Rattle.journal.specs.Runs.{Run, Replay}

-- THE PLAIN LIST, FED THE SAME CALLS

-- the call was made
abbrev pub was_made : Came → Bool
was_made (Some r) = true
was_made None = false

-- the lays, lifts, turns and orients that were made, each with its answer
abbrev pub kept : AChange → Came → List (AChange × Came)
kept c a = cond (was_made a) ((c, a) ∷ []) []

abbrev pub change_of : Call → Came → List (AChange × Came)
change_of (Change c) a = kept c a
change_of Seal a = []
change_of Reopen a = []
change_of (Ask q) a = []
change_of (Carry k m) a = []

abbrev pub changes_of : List Exchange → List (AChange × Came)
changes_of [] = []
changes_of (x ∷ log) = change_of x.call x.reply ++ changes_of log

-- the plain list p replies a to the change c and becomes q, whatever lists are handed over
abbrev pub Feeds : Plain → AChange → Came → Plain → Type 0
Feeds p c a q = (xs : List Turn) × (xs' : List Turn) × (ms : List ℕ) × (ms' : List ℕ) × GivesParts xs ms c × Changed p q c xs ms a xs' ms'

pub data Fed : Plain → List (AChange × Came) → Plain → Type 0 where
  none : {p : Plain} → Fed p [] p
  first : {p₁ p₂ p₃ : Plain} {c : AChange} {a : Came} {cs : List (AChange × Came)} → Feeds p₁ c a p₂ → Fed p₂ cs p₃ → Fed p₁ ((c, a) ∷ cs) p₃

abbrev pub calls_of : List (AChange × Came) → List AChange
calls_of cs = map (λ (x : AChange × Came). x.0) cs

-- The cells in order, and what lay, lift, turn and orient answered, refusals too, are those of a plain list that is fed the same calls, and of no other.
pub record LikeThePlainList (n : ℕ) (log : List Exchange) (g : Ground) : Type 0 where
  pub fed : Fed (made n).plain (changes_of log) g.plain
  pub only : (cs : List (AChange × Came)) (q : Plain) → calls_of cs ≡ calls_of (changes_of log) → Fed (made n).plain cs q → (cs ≡ changes_of log) × (q ≡ g.plain)

-- What is told of opposites: the one other half-face with the same three vertices, which answers back; and none exactly when no other has them.
pub record OppositesTold (rs : List (List ℕ)) : Type 0 where
  pub one : (h o : ℕ) → TellsOpposite rs h (Ok (Some o)) → Joined rs h o × ((k : ℕ) → Joined rs h k → k ≡ o)
  pub back : (h o : ℕ) → TellsOpposite rs h (Ok (Some o)) → TellsOpposite rs o (Ok (Some h))
  pub none : (h : ℕ) → Half rs h → TellsOpposite rs h (Ok None) ↔ ((o : ℕ) → Joined rs h o → ⊥)
  pub no_three : NoThree rs

-- CARRY

-- labels for each item, which agree over the net
abbrev pub Agree : {M : Type 0} → Given M → List M → Type 0
Agree e xs = (e.web.items ≤ length xs) × Agrees e.web e.kind (map e.meaning xs)

-- and are neutral at the first item of each piece
abbrev pub AgreeFromNeutral : {M : Type 0} → Given M → List M → Type 0
AgreeFromNeutral e xs = Agree e xs × Grounded e.web e.kind (map e.meaning xs)

-- Carry says that no labels agree exactly when none do; otherwise those that it leaves agree, neutral first in each piece, and every other such list means the same, item by item.
pub record CarriesExactly {M : Type 0} (e : Given M) (r : Result ℕ Refusal) (xs' : List M) : Type 0 where
  pub refuses : (r ≡ Err NoLabelsAgree) ↔ ((ys : List M) → Agree e ys → ⊥)
  pub agree : (r ≢ Err NoLabelsAgree) → AgreeFromNeutral e xs'
  pub only : (r ≢ Err NoLabelsAgree) → (ys : List M) → AgreeFromNeutral e ys → (i : ℕ) → i < e.web.items → slice_index (map e.meaning ys) i ≡ slice_index (map e.meaning xs') i

-- whatever the lists hold, if they are long enough
abbrev pub CarryExact : Type 0 → Type 0
CarryExact M = (e : Given M) (xs xs' : List M) (ms ms' : List ℕ) (r : Result ℕ Refusal) → e.web.items ≤ length xs → e.web.items ≤ length ms
    → Carried e.web e.kind e.meaning xs ms xs' ms' r → CarriesExactly e r xs'

-- ORIENT

-- Orient says that no choice of turned cells works exactly when its lists are long enough and none does.
abbrev pub OrientRefusesTruly : Plain → Type 0
OrientRefusesTruly p = (xs xs' : List Turn) (ms ms' : List ℕ) (r : Result ℕ Refusal) (q : Plain) → Orients p xs ms r q xs' ms' → RefusedExactly p xs ms r

-- an orient that was accepted
abbrev pub OrientAccepted : Exchange → Type 0
OrientAccepted x = (k : Part) × (m : Part) × (n : ℕ) × (x ≡ record { call = Change (Orient k m); reply = Some (Ok (Number n)) })

-- a lay or a turn that was accepted
pub data LayOrTurnAccepted : Exchange → Type 0 where
  lay : {a b c d n : ℕ} → LayOrTurnAccepted (record { call = Change (Lay a b c d); reply = Some (Ok (Number n)) })
  turn : {t : ℕ} → LayOrTurnAccepted (record { call = Change (TurnCell t); reply = Some (Ok Done) })

abbrev pub NoLayOrTurn : List Exchange → Type 0
NoLayOrTurn [] = Unit {0}
NoLayOrTurn (x ∷ log) = (LayOrTurnAccepted x → ⊥) × NoLayOrTurn log

-- orient was accepted, and since then no lay or turn was
pub record Oriented (log : List Exchange) : Type 0 where
  pub before : List Exchange
  pub orient : Exchange
  pub since : List Exchange
  pub journal : log ≡ before ++ orient ∷ since
  pub accepted : OrientAccepted orient
  pub quiet : NoLayOrTurn since

-- THE PROMISE

-- what holds of a ground made over n places, after the calls of log
pub record Kept (n : ℕ) (log : List Exchange) (g : Ground) : Type 0 where
  pub plain : LikeThePlainList n log g
  pub lawful : LawfulRows g.plain.list
  pub opposites : OppositesTold g.plain.list
  -- labels agree over the turn net exactly when turning by them makes all joined triangles read opposite ways
  pub turns_meant : TurnsMeant g.plain.list
  pub orient_refuses : OrientRefusesTruly g.plain
  -- once oriented it stays so until the next accepted lay or turn
  pub all_opposed : Oriented log → AllOpposed g.plain.list
  pub mates_opposed : Oriented log → MatesOpposed g.plain.list

-- The promise, to whoever has nets with labels M: after every list of calls, and for every carry, over nets of the caller's and of the ground.
pub record Promise (M : Type 0) : Type 0 where
  pub after_every_list : (n : ℕ) (log : List Exchange) (g : Ground) → Run M (made n) log g → Kept n log g
  pub carry_exact : CarryExact M
  pub carry_turns_exact : CarryExact Turn
  pub carry_corners_exact : CarryExact Corner

-- From s the calls of log were made in order, on a ground made over n places: log' has them with their answers, they led to
-- end, sealed or not, and what every run keeps this one kept.
pub record Replayed {M : Type 0} (e : Given M) (n : ℕ) (log log' : List Exchange) (s : State M) (end : Bool → State M) : Type 0 where
  pub calls : map (λ (x : Exchange). x.call) log' ≡ map (λ (x : Exchange). x.call) log
  pub sealed : Bool
  pub replay : Replay e s log' (end sealed)
  pub kept : Kept n log' (end sealed).ground
