use Rattle.std.proofs.Common.{◌≡◌, ℕ, Bool, false, nat_lt, Some, None, Option, ap, ◌∙◌, rules}
use Rattle.std.specs.Option.{MatchOption}
use Rattle.ground.specs.Listed.{higher_there, lower_at}
use Rattle.ground.proofs.joined.Joined.is_lower.Goals as goal

higher_is : (o : Option ℕ) (h : ℕ) (b : Bool) (Q : ℕ → Type 0) → MatchOption o (b ≡ false) Q → ((k : ℕ) → Q k → b ≡ nat_lt h k) → b ≡ higher_there o h
higher_is None h b Q e f = e
higher_is (Some k) h b Q e f = f k e

pub returns : goal.returns
unfolding lower_at
returns c = higher_is c.opposite.result c.args.h c.is_some_and.result _ c.is_some_and.ensures (λ k q. search rules) ∙ ap (λ (o : Option ℕ). higher_there o c.args.h) c.opposite.ensures
