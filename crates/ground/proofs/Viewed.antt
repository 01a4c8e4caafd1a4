-- What the ghost fields of the joined cells say: the joins that they store are those of the rows' nets.
use Rattle.std.proofs.Common.{◌≡◌, ℕ, ◌+◌, ◌*◌, ◌/◌, ◌<◌, List, length, Some, Option, sym, ap, ◌∙◌, subst, arith}
use Rattle.rules.specs.Tests.{on_face}
use Rattle.rules.specs.NetTests.{partner, stepped, cell_steps}
use Rattle.rules.specs.NetTests as net
use Rattle.rules.proofs.Exact.{Exact}
use Rattle.rules.proofs.Webbed.{opposite_is, partner_in, partner_from}
use Rattle.ground.specs.declared.cell.Cell.{Cell}
use Rattle.ground.specs.declared.cells.Cells.{Cells}
use Rattle.ground.specs.declared.joined.Joined.{Joined}
use Rattle.ground.specs.Records.{rows, join_at}
use Rattle.ground.specs.Grounds.{rows_of}
use Rattle.ground.specs.Nets.{joined_rows}
use Rattle.ground.proofs.Records.{length_rows}
use Rattle.ground.proofs.Turned.{exact_of}

-- and they are those of the cells that are joined
pub seen : (t : Joined) (g : Cells) → t.records.now ≡ g.records.now → t.count ≡ g.count → joined_rows t ≡ rows_of g
seen t g p q = ap (λ (z : List Cell). rows z t.count) p ∙ ap (rows g.records.now) q

pub many_of : (t : Joined) → length (joined_rows t) ≡ t.count
many_of t = length_rows t.records.now t.count t.standing.room

pub view_exact : (t : Joined) → Exact (on_face (joined_rows t)) (4 * length (joined_rows t)) (join_at t.records.now)
view_exact t = subst (λ (m : ℕ). Exact (on_face (joined_rows t)) (4 * m) (join_at t.records.now)) (sym (many_of t))
    (exact_of (on_face (joined_rows t)) (4 * t.count) (join_at t.records.now) t.standing.law.near t.standing.law.other t.standing.law.same t.standing.law.whole)

-- what is stored at a side is the partner
pub view_stored : (t : Joined) (i s : ℕ) (o : Option ℕ) → i < t.count → s < 4 → o ≡ join_at t.records.now (4 * i + s) → o ≡ partner (joined_rows t) i s
view_stored t i s o l k e =
    let z = many_of t in
    e ∙ sym (opposite_is (joined_rows t) (join_at t.records.now) (view_exact t) (4 * i + s) (omega arith))
    ∙ sym (partner_in (joined_rows t) i s (omega arith) k)

-- where a side is joined, both cells are there
pub record Across (t : Joined) (i s g : ℕ) : Type 0 where
  pub item : i < t.count
  pub side : s < 4
  pub half : 4 * i + s < 4 * length (joined_rows t)
  pub there : g / 4 < t.count
  pub opposite : net.opposite (joined_rows t) (4 * i + s) ≡ Some g

pub across : (t : Joined) (i s g : ℕ) → Some g ≡ partner (joined_rows t) i s → Across t i s g
across t i s g e =
    let z = many_of t in
    let r = partner_from (joined_rows t) i s g (sym e) in
    let l : 4 * i + s < 4 * length (joined_rows t) = omega arith in
    let j = sym (opposite_is (joined_rows t) (join_at t.records.now) (view_exact t) (4 * i + s) l) ∙ r.2 in
    let n = (view_exact t).near (4 * i + s) g l j in
    record { item = omega arith; side = r.1; half = l; there = omega arith; opposite = r.2 }

-- the step at a side, from the step over its join
pub view_step : (t : Joined) (n : ℕ) (f : ℕ → ℕ → ℕ) (i s : ℕ) (o : Option ℕ) → o ≡ partner (joined_rows t) i s → stepped n f (4 * i + s) o ≡ cell_steps (joined_rows t) n f i s
unfolding cell_steps
view_step t n f i s o e = ap (stepped n f (4 * i + s)) e
