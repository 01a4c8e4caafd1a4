-- The first cause that applies is one refusal, so a call on the plain list has one answer and leaves one list.
use Rattle.std.proofs.Common.{◌≡◌, ℕ, List, [], ◌∷◌, get_or, Ok, Err, Result, sym, refl, ap, ◌∙◌, ⊎_elim, arith}
use Rattle.std.proofs.lemmas.Bool.{cases_lt}
use Rattle.refusal.specs.declared.Refusal.{Refusal}
use Rattle.refusal.specs.declared.Refusal.TheVariants.{VertexTooHigh, VerticesEqual, ListTooShort, EdgePlaceTooHigh, LineMalformed, WronglyClosed, TextTooLong, NoFreePlace, CellPresent, TriangleTaken, NoSuchNumber, NoLabelsAgree, InNoCell, HalfFaceJoined}
use Rattle.refusal.specs.Numbers.{number_of}
use Rattle.refusal.specs.Causes.{First, Outcome}
use Rattle.rules.specs.PlainList.{Plain, LayCause, RowCause, Lays, Lifts, Turns}

-- ONE REFUSAL FOR A NUMBER

-- the refusal with the number n; where there is none, any
abbrev numbered : ℕ → Refusal
numbered n = get_or (TextTooLong ∷ VertexTooHigh ∷ VerticesEqual ∷ ListTooShort ∷ EdgePlaceTooHigh ∷ LineMalformed ∷ WronglyClosed ∷ TextTooLong ∷ TextTooLong ∷ TextTooLong ∷ TextTooLong ∷ NoFreePlace ∷ CellPresent ∷ TriangleTaken ∷ NoSuchNumber ∷ NoLabelsAgree ∷ InNoCell ∷ HalfFaceJoined ∷ []) n TextTooLong

numbered_back : (c : Refusal) → numbered (number_of c) ≡ c
numbered_back VertexTooHigh = refl
numbered_back VerticesEqual = refl
numbered_back ListTooShort = refl
numbered_back EdgePlaceTooHigh = refl
numbered_back LineMalformed = refl
numbered_back WronglyClosed = refl
numbered_back TextTooLong = refl
numbered_back NoFreePlace = refl
numbered_back CellPresent = refl
numbered_back TriangleTaken = refl
numbered_back NoSuchNumber = refl
numbered_back NoLabelsAgree = refl
numbered_back InNoCell = refl
numbered_back HalfFaceJoined = refl

pub number_one : (c d : Refusal) → number_of c ≡ number_of d → c ≡ d
number_one c d e = sym (numbered_back c) ∙ ap numbered e ∙ numbered_back d

-- ONE OUTCOME OF A CALL

module _ (Applies : Refusal → Type 0) where
  pub first_one : (c d : Refusal) → First Applies c → First Applies d → c ≡ d
  first_one c d a b =
      number_one c d
      (⊎_elim (λ l. absurd (b.none_before c l a.applies))
      (λ l. ⊎_elim (λ k. absurd (a.none_before d k b.applies)) (λ k. omega arith) (cases_lt (number_of d) (number_of c)))
      (cases_lt (number_of c) (number_of d)))

  module _ {A P : Type 0} (Right : A → P → Type 0) (p : P) (one : (a b : A) (q q' : P) → Right a q → Right b q' → (a ≡ b) × (q ≡ q')) where
    pub outcome_once : (r r' : Result A Refusal) (q q' : P) → Outcome Applies Right p r q → Outcome Applies Right p r' q' → (r ≡ r') × (q ≡ q')
    outcome_once (Ok a) (Ok b) q q' o u = let e = one a b q q' o.1 u.1 in (ap Ok e.0, e.1)
    outcome_once (Ok a) (Err d) q q' o u = absurd (o.0 d u.0.applies)
    outcome_once (Err c) (Ok b) q q' o u = absurd (u.0 c o.0.applies)
    outcome_once (Err c) (Err d) q q' o u = (ap Err (first_one c d o.0 u.0), o.1 ∙ sym u.1)

-- THE CALLS

pub lays_once : (p : Plain) (x : List ℕ) (r r' : Result ℕ Refusal) (q q' : Plain) → Lays p x r q → Lays p x r' q' → (r ≡ r') × (q ≡ q')
lays_once p x = outcome_once (LayCause p x) _ p (λ a b q q' m n. (m.0 ∙ sym n.0, m.1 ∙ sym n.1))

pub lifts_once : (p : Plain) (t : ℕ) (r r' : Result (Unit {0}) Refusal) (q q' : Plain) → Lifts p t r q → Lifts p t r' q' → (r ≡ r') × (q ≡ q')
lifts_once p t = outcome_once (RowCause p t) _ p (λ a b q q' m n. (refl, m ∙ sym n))

pub turns_once : (p : Plain) (t : ℕ) (r r' : Result (Unit {0}) Refusal) (q q' : Plain) → Turns p t r q → Turns p t r' q' → (r ≡ r') × (q ≡ q')
turns_once p t = outcome_once (RowCause p t) _ p (λ a b q q' m n. (refl, m ∙ sym n))
