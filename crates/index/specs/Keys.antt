-- The orders of vertex pairs and triples: by the first vertex, then by the second, then by the third.
use Rattle.std.specs.Ordering.{nat_cmp, ordering_then}
use Rattle.std.specs.declared.cmp.Ordering.{Ordering}
use Rattle.index.specs.declared.keys.Pair.{Pair}
use Rattle.index.specs.declared.keys.Triple.{Triple}

abbrev pub pair_order : Pair → Pair → Ordering
pair_order p q = ordering_then (nat_cmp p.first q.first) (nat_cmp p.second q.second)

abbrev pub triple_order : Triple → Triple → Ordering
triple_order p q = ordering_then (nat_cmp p.first q.first) (ordering_then (nat_cmp p.second q.second) (nat_cmp p.third q.third))
