use Rattle.std.proofs.Common.{◌≡◌, ℕ, Bool, true, false, ◌||◌, ◌&&◌, eqb, List, refl, sym, ap, ◌∙◌}
use Rattle.std.specs.List.{list_any}
use Rattle.rules.specs.Readings.{Reading, reads, listed}
use Rattle.rules.specs.NetTests.{among, holds}
use Rattle.halves.specs.HalfFaces.{rows_of}
use Rattle.nets.proofs.star_net.holds.Goals as goal

or_false : (a b c : Bool) → (a || (b || (c || false))) ≡ (a || (b || c))
or_false true b c = refl
or_false false true c = refl
or_false false false true = refl
or_false false false false = refl

any_among : (a : Reading) (v : ℕ) → list_any (λ y. eqb y v) (listed a) ≡ among (listed a) v
any_among a v = or_false (eqb a.p v) (eqb a.q v) (eqb a.r v)

-- of three vertices that were read
read_among : (a : Reading) (read : List ℕ) (v : ℕ) (b : Bool) → read ≡ listed a → b ≡ list_any (λ y. eqb y v) read → b ≡ among (listed a) v
read_among a read v b e p = p ∙ ap (list_any (λ y. eqb y v)) e ∙ any_among a v

pub returns-then-contains : goal.returns-then-contains
unfolding holds
returns-then-contains c =
    let h = c.args.half_face in
    let a = reads (rows_of h) h.number in
    read_among a c.reading-triangle.result c.args.w c.contains-then-contains.result c.reading-triangle.ensures c.contains-then-contains.ensures.value
    ∙ ap (λ (b : Bool). b && among (listed a) c.args.w) (sym c.if-contains.true ∙ read_among a c.reading-triangle.result c.args.v c.contains.result c.reading-triangle.ensures c.contains.ensures.value)

pub returns-else-contains : goal.returns-else-contains
unfolding holds
returns-else-contains c =
    let h = c.args.half_face in
    let a = reads (rows_of h) h.number in
    c.if-contains.false
    ∙ ap (λ (b : Bool). b && among (listed a) c.args.w) (sym c.if-contains.false ∙ read_among a c.reading-triangle.result c.args.v c.contains.result c.reading-triangle.ensures c.contains.ensures.value)
