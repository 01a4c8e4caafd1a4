-- What a worked example says: some calls on a plain list without rows are accepted, and then a claim holds of the list.
use Rattle.std.specs.Prelude.{◌≡◌, ℕ, ◌≤◌, List, [], ◌∷◌, length, Ok, Err}
use Rattle.refusal.specs.declared.Refusal.{Refusal}
use Rattle.refusal.specs.declared.Refusal.TheVariants.{NoLabelsAgree}
use Rattle.refusal.specs.Causes.{First, NoCause}
use Rattle.carry.specs.declared.turn.Turn.{Turn}
use Rattle.carry.specs.declared.corner.Corner.{Corner}
use Rattle.carry.specs.Kinds.{Kind}
use Rattle.carry.specs.Turns.{turn_meaning, turn_kind}
use Rattle.carry.specs.Corners.{corner_meaning}
use Rattle.carry.specs.Digits.{corner_kind}
use Rattle.carry.specs.Webs.{Web}
use Rattle.carry.specs.Agreement.{NoneAgree, Agreeing}
use Rattle.rules.specs.Rows.{row}
use Rattle.rules.specs.Readings.{reads, Alike}
use Rattle.rules.specs.Joins.{Joined, OnSkin}
use Rattle.rules.specs.Listings.{Listing}
use Rattle.rules.specs.PlainList.{Plain, empty, laid, Lays, Lifts, Turns}
use Rattle.rules.specs.Questions.{AtEdge}
use Rattle.rules.specs.Soundness.{EdgeSound}
use Rattle.rules.specs.Nets.{TurnWeb, CornerWeb, turned_by, NoChoice, Orientation}
use Rattle.rules.specs.Orients.{OrientCause}
use Rattle.rules.specs.Mates.{Mated}

-- CALLS

pub data Call : Type 0 where
  lay : ℕ → ℕ → ℕ → ℕ → Call
  lift : ℕ → Call
  turn : ℕ → Call

-- the call is accepted, and turns p into q
abbrev pub Accepted : Call → Plain → Plain → Type 0
Accepted (lay a b c d) p q = Lays p (row a b c d) (Ok (length p.list)) q
Accepted (lift t) p q = Lifts p t (Ok tt) q
Accepted (turn t) p q = Turns p t (Ok tt) q

-- the calls are accepted, one after another, and turn p into q
abbrev pub AllAccepted : List Call → Plain → Plain → Type 0
AllAccepted [] p q = q ≡ p
AllAccepted (c ∷ cs) p q = (between : Plain) × Accepted c p between × AllAccepted cs between q

-- NETS

-- the two nets of rows
pub data Net : Type 0 where
  turns corners : Net

abbrev pub WebOf : Net → List (List ℕ) → Web → Type 0
WebOf turns = TurnWeb
WebOf corners = CornerWeb

abbrev pub Label : Net → Type 0
Label turns = Turn
Label corners = Corner

abbrev pub meaning : (n : Net) → Label n → ℕ
meaning turns = turn_meaning
meaning corners = corner_meaning

abbrev pub kind : Net → Kind
kind turns = turn_kind
kind corners = corner_kind

-- the rows have such a net, and each that they have has P
abbrev pub OfNet : Net → List (List ℕ) → (Web → Type 0) → Type 0
OfNet n rs P = ((w : Web) × WebOf n rs w) × ((w : Web) → WebOf n rs w → P w)

-- whatever lists of labels and marks orient is handed, if they are as long as the rows
abbrev pub LongEnough : Plain → (List Turn → List ℕ → Type 0) → Type 0
LongEnough p P = (ys : List Turn) (ms : List ℕ) → length p.list ≤ length ys → length p.list ≤ length ms → P ys ms

-- CLAIMS

-- A ring or a cut shows where to look; what is claimed does not rest on it.
pub data Claim : Type 0 where
  -- the half-faces h and g are joined and read opposite ways
  opposed : (h g : ℕ) → Claim
  -- or they read alike
  alike : (h g : ℕ) → Claim
  -- the half-face h is open
  unjoined : (h : ℕ) → Claim
  -- to lay a b c d is answered n
  lays : (a b c d n : ℕ) → Claim
  -- or refused
  lay_refused : (a b c d : ℕ) → Refusal → Claim
  -- ks are the cells of the edge of v and w
  edge_cells : (v w : ℕ) (ks : List ℕ) → Claim
  -- the edge is sound
  sound : (v w : ℕ) → Claim
  -- or it is not: no crossing leads out of the cells of cut
  unsound : (v w : ℕ) (cut : List ℕ) → Claim
  -- ls are, by meaning, the labels that agree and are neutral at first items
  labels : Net → (ls : List ℕ) → Claim
  -- no labels agree: the steps over the half-faces of ring lead back to another label
  no_labels : Net → (ring : List ℕ) → Claim
  -- orient turns n of the rows, those that xs labels 1
  orients : (n : ℕ) (xs : List Turn) → Claim
  -- or it is refused, since no labels agree, and no choice of turned cells would do
  orient_refused : (ring : List ℕ) → Claim
  -- the mate of the open half-face h at its edge place e is m at its edge place d
  mate : (h e m d : ℕ) → Claim

abbrev pub Says : Plain → Claim → Type 0
Says p (opposed h g) = Joined p.list h g × (Alike (reads p.list h) (reads p.list g) → ⊥)
Says p (alike h g) = Joined p.list h g × Alike (reads p.list h) (reads p.list g)
Says p (unjoined h) = OnSkin p.list h
Says p (lays a b c d n) = Lays p (row a b c d) (Ok n) (laid p (row a b c d))
Says p (lay_refused a b c d r) = Lays p (row a b c d) (Err r) p
Says p (edge_cells v w ks) = Listing (AtEdge p.list v w) ks
Says p (sound v w) = EdgeSound p.list v w
Says p (unsound v w cut) = EdgeSound p.list v w → ⊥
Says p (labels n ls) = OfNet n p.list (λ w. (pieces : ℕ) × Agreeing w (kind n) (meaning n) ls pieces)
Says p (no_labels n ring) = OfNet n p.list (λ w. NoneAgree w (kind n) (meaning n))
Says p (orients n xs) = LongEnough p (λ ys ms. NoCause (OrientCause p ys ms)) × Orientation p.list (turned_by xs p.list) n
Says p (orient_refused ring) = LongEnough p (λ ys ms. First (OrientCause p ys ms) NoLabelsAgree) × NoChoice p.list
Says p (mate h e m d) = OnSkin p.list h × Mated p.list h e m d

-- CASES

pub data Case : Type 0 where
  after : List Call → Claim → Case

-- the calls are accepted on a plain list without rows and with room for 1,024, and the claim holds of what they leave
abbrev pub Holds : Case → Type 0
Holds (after cs claim) = (p : Plain) × AllAccepted cs (empty 1024) p × Says p claim

pub data AllHold : List Case → Type 0 where
  none : AllHold []
  also : {c : Case} {cs : List Case} → Holds c → AllHold cs → AllHold (c ∷ cs)
