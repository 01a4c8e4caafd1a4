use Rattle.std.proofs.Common.{◌≡◌, ℕ, Bool, true, false, not, is_some, Some, None, Option, refl, ap, ◌∙◌}
use Rattle.ground.specs.Listed.{none_there, open_at}
use Rattle.ground.proofs.joined.Joined.is_open.Goals as goal

none_is : (o : Option ℕ) (b : Bool) → is_some o ≡ not b → b ≡ none_there o
none_is None true e = refl
none_is None false e = e
none_is (Some g) true e = e
none_is (Some g) false e = refl

pub returns : goal.returns
unfolding open_at
returns c = none_is c.opposite.result c.is_none.result c.is_none.ensures ∙ ap none_there c.opposite.ensures
