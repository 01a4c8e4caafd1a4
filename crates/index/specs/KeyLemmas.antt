-- The orders of pairs and triples are total: those that they call equal are the same.
use Rattle.std.specs.Prelude.{◌≡◌, ℕ}
use Rattle.std.proofs.Common.{ap}
use Rattle.std.specs.declared.cmp.Ordering.TheVariants.{Equal}
use Rattle.std.specs.Ordering.{nat_cmp}
use Rattle.index.specs.Keys.{pair_order, triple_order}
use Rattle.index.specs.Orders.{TotalOrder}
use Rattle.index.specs.Total.{Lexical, lexical_total, number_total, total_by}
use Rattle.index.specs.declared.keys.Pair.{Pair}
use Rattle.index.specs.declared.keys.Triple.{Triple}

-- from its parts: those with the same parts are the same
unfoldable pub pair_of : ℕ × ℕ → Pair
pair_of p = record { first = p.0; second = p.1 }

unfoldable pub triple_of : ℕ × (ℕ × ℕ) → Triple
triple_of p = record { first = p.0; second = p.1.0; third = p.1.1 }

pub pair_total : TotalOrder pair_order
pair_total = unfold pair_of in total_by (lexical_total nat_cmp nat_cmp number_total number_total) (λ p. (p.first, p.second)) (λ p q h. ap pair_of h)

pub triple_total : TotalOrder triple_order
triple_total = unfold triple_of in
    let rest = lexical_total nat_cmp nat_cmp number_total number_total in
    total_by (lexical_total nat_cmp (Lexical nat_cmp nat_cmp number_total number_total) number_total rest)
    (λ p. (p.first, (p.second, p.third))) (λ p q h. ap triple_of h)

pub pair_identical : (p q : Pair) → pair_order p q ≡ Equal → p ≡ q
pair_identical = pair_total.equal_only

pub triple_identical : (p q : Triple) → triple_order p q ≡ Equal → p ≡ q
triple_identical = triple_total.equal_only
