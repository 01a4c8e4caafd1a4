-- Total orders. That a key is exactly one of less, equal and greater is said by the type of an order.
use Rattle.std.specs.Prelude.{◌≡◌}
use Rattle.std.specs.declared.cmp.Ordering.TheVariants.{Less, Equal}
use Rattle.std.specs.declared.cmp.Ordering.{Ordering}
use Rattle.std.specs.Ordering.{ordering_reverse}

pub record TotalOrder {K : Type 0} (order : K → K → Ordering) : Type 0 where
  -- the reverse when the keys are exchanged
  pub exchanged : (x y : K) → order y x ≡ ordering_reverse (order x y)
  -- equal for equal keys only
  pub equal_only : (x y : K) → order x y ≡ Equal → x ≡ y
  -- less of less is less
  pub chained : (x y z : K) → order x y ≡ Less → order y z ≡ Less → order x z ≡ Less
