-- Lists of calls, one after the other.
use Rattle.std.specs.Prelude.{◌≡◌, List, [], ◌∷◌}
use Rattle.journal.specs.declared.calls.Exchange.{Exchange}
use Rattle.journal.specs.States.{Ground, Given, State}
use Rattle.journal.specs.Steps.{Step}

-- Calls on a ground, in any order, from any code: what the lists hold before each call, and which nets are carried over, is the caller's affair.
pub data Run (M : Type 0) : Ground → List Exchange → Ground → Type 0 where
  none : {g : Ground} → Run M g [] g
  first : {g₁ g₂ g₃ : Ground} {x : Exchange} {log : List Exchange} (e : Given M) (s s' : State M) → s.ground ≡ g₁ → s'.ground ≡ g₂ → Step e s x s' → Run M g₂ log g₃ → Run M g₁ (x ∷ log) g₃

-- Calls over one net, with lists that nobody else writes: each call finds them as the one before left them.
pub data Replay {M : Type 0} (e : Given M) : State M → List Exchange → State M → Type 0 where
  none : {s : State M} → Replay e s [] s
  first : {s₁ s₂ s₃ : State M} {x : Exchange} {log : List Exchange} → Step e s₁ x s₂ → Replay e s₂ log s₃ → Replay e s₁ (x ∷ log) s₃
