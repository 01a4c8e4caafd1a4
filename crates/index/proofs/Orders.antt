-- The orders that the keys' derives make are theirs.
use Rattle.std.proofs.Common.{◌≡◌, refl}
use Rattle.index.specs.contracts.keys.PairOrd.TheImpl as derived_pair
use Rattle.index.specs.contracts.keys.TripleOrd.TheImpl as derived_triple
use Rattle.index.specs.declared.keys.Pair.{Pair}
use Rattle.index.specs.declared.keys.Triple.{Triple}
use Rattle.index.specs.Keys.{pair_order, triple_order}

pub pair_cmp : (p q : Pair) → derived_pair.ghosts.cmp p q ≡ pair_order p q
pair_cmp p q = refl

pub triple_cmp : (p q : Triple) → derived_triple.ghosts.cmp p q ≡ triple_order p q
triple_cmp p q = refl
