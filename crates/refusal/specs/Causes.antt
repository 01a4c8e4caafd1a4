-- Which refusal a call gives. Of several causes that apply the one with the lowest number is returned.
use Rattle.std.specs.Prelude.{◌≡◌, ◌<◌, Ok, Err, Result}
use Rattle.refusal.specs.declared.Refusal.{Refusal}
use Rattle.refusal.specs.Numbers.{number_of}

-- c applies, and no cause before it
pub record First (Applies : Refusal → Type 0) (c : Refusal) : Type 0 where
  pub applies : Applies c
  pub none_before : (d : Refusal) → number_of d < number_of c → Applies d → ⊥

-- no cause applies
abbrev pub NoCause : (Refusal → Type 0) → Type 0
NoCause Applies = (c : Refusal) → Applies c → ⊥

-- A question: where no cause applies the answer is right, else the first cause that applies is returned.
abbrev pub Answered : {A : Type 0} → (Refusal → Type 0) → (A → Type 0) → Result A Refusal → Type 0
Answered Applies Right (Ok a) = NoCause Applies × Right a
Answered Applies Right (Err c) = First Applies c

-- A call that turns p into q and answers r: where no cause applies the answer and what is left are right,
-- else the first cause that applies is returned, and p is left as it was.
abbrev pub Outcome : {A P : Type 0} → (Refusal → Type 0) → (A → P → Type 0) → P → Result A Refusal → P → Type 0
Outcome Applies Right p (Ok a) q = NoCause Applies × Right a q
Outcome Applies Right p (Err c) q = First Applies c × (q ≡ p)
