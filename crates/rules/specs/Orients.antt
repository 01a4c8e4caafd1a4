-- Orient on the plain list: it turns each row that the turn labels label 1. Labels xs and marks ms are handed in, and xs' and ms' are left.
use Rattle.std.specs.Prelude.{◌≡◌, ℕ, ◌<◌, ◌≤◌, ◌↔◌, List, length, Ok, Err, Result}
use Rattle.refusal.specs.declared.Refusal.{Refusal}
use Rattle.refusal.specs.declared.Refusal.TheVariants.{ListTooShort, NoLabelsAgree}
use Rattle.refusal.specs.Causes.{First, NoCause}
use Rattle.carry.specs.declared.turn.Turn.{Turn}
use Rattle.carry.specs.Turns.{turn_meaning, turn_kind}
use Rattle.carry.specs.Webs.{Web}
use Rattle.carry.specs.Carrying.{Tidied, Left}
use Rattle.rules.specs.PlainList.{Plain, changed}
use Rattle.rules.specs.Nets.{TurnWeb, TurnsAgree, TurnLabels, TurnedMany, turned_by, AllOpposed, NoChoice}

-- what refuses to orient
pub data OrientCause (p : Plain) (xs : List Turn) (ms : List ℕ) : Refusal → Type 0 where
  few_labels : length xs < length p.list → OrientCause p xs ms ListTooShort
  few_marks : length ms < length p.list → OrientCause p xs ms ListTooShort
  none_agree : ((ys : List Turn) → length p.list ≤ length ys → TurnsAgree p.list ys → ⊥) → OrientCause p xs ms NoLabelsAgree

-- orient turned n rows; also if none is turned this is one accepted change
pub record Oriented (p : Plain) (xs : List Turn) (ms : List ℕ) (n : ℕ) (q : Plain) (xs' : List Turn) (ms' : List ℕ) : Type 0 where
  pub labels : TurnLabels p.list xs'
  pub lists : Tidied (length p.list) xs ms xs' ms'
  pub list : q ≡ changed p (turned_by xs' p.list)
  pub many : TurnedMany p.list xs' n

-- the rows stand, and the two lists are as carry leaves them when it refuses
pub record Unoriented (p : Plain) (xs : List Turn) (ms : List ℕ) (c : Refusal) (q : Plain) (xs' : List Turn) (ms' : List ℕ) : Type 0 where
  pub stands : q ≡ p
  pub web : Web
  pub turns : TurnWeb p.list web
  pub left : Left web turn_kind turn_meaning xs ms xs' ms' c

-- where no cause applies the rows are turned, else the first cause that applies is returned
abbrev pub Orients : Plain → List Turn → List ℕ → Result ℕ Refusal → Plain → List Turn → List ℕ → Type 0
Orients p xs ms (Ok n) q xs' ms' = NoCause (OrientCause p xs ms) × Oriented p xs ms n q xs' ms'
Orients p xs ms (Err c) q xs' ms' = First (OrientCause p xs ms) c × Unoriented p xs ms c q xs' ms'

-- WHAT FOLLOWS

-- 15 is answered exactly when the lists are long enough and no choice of turned cells has all joined triangles read opposite ways
abbrev pub RefusedExactly : Plain → List Turn → List ℕ → Result ℕ Refusal → Type 0
RefusedExactly p xs ms r = (r ≡ Err NoLabelsAgree) ↔ ((length p.list ≤ length xs) × (length p.list ≤ length ms) × NoChoice p.list)

-- after acceptance all joined triangles read opposite ways
abbrev pub OpposedAfter : Result ℕ Refusal → Plain → Type 0
OpposedAfter (Ok n) q = AllOpposed q.list
OpposedAfter (Err c) q = Unit {0}

-- whatever else orient may do with the same rows and lists, it answers r and leaves q
abbrev pub OrientsOnce : Plain → List Turn → List ℕ → Result ℕ Refusal → Plain → Type 0
OrientsOnce p xs ms r q = (r' : Result ℕ Refusal) (q' : Plain) (xs' : List Turn) (ms' : List ℕ) → Orients p xs ms r' q' xs' ms' → (r' ≡ r) × (q' ≡ q)
