use Rattle.std.proofs.Common.{◌≡◌, ℕ, ◌+◌, ◌-◌, ◌<◌, ◌≤◌, List, [], length, get_or, take, set, sym, refl, ap, ◌∙◌, subst, arith}
use Rattle.ground.specs.declared.cell.Cell.{Cell}
use Rattle.ground.specs.declared.cells.Cells.{Cells}
use Rattle.ground.specs.Grounds.{rows_of}
use Rattle.ground.specs.Records.{rows, lifted_cells}
use Rattle.ground.proofs.Grounds.{facts, standing_so, few_so, many}
use Rattle.ground.proofs.Removed.{near_t, linked_p, lifted_facts, rows_lifted, length_lifted}
use Rattle.ground.proofs.Turned.{Facts}
use Rattle.ground.proofs.cells.Cells.remove.Goals as goal

-- where there is a cell, there is a last one
some_cells : (g : Cells) (t : ℕ) → t < g.count → g.count ≡ g.count - 1 + 1
some_cells g t l = omega arith

facts_last : (g : Cells) (t : ℕ) → t < g.count → Facts g.records.now (g.count - 1 + 1)
facts_last g t l = subst (Facts g.records.now) (some_cells g t l) (facts g)

-- the last row is written over row t, and dropped
rows_after : (g : Cells) (t : ℕ) → t < g.count
    → rows (lifted_cells g.records.now (g.count - 1) t) (g.count - 1)
    ≡ take (length (rows_of g) - 1) (set (rows_of g) t (get_or (rows_of g) (length (rows_of g) - 1) []))
rows_after g t l =
    rows_lifted g.records.now (g.count - 1) t (omega arith) (facts_last g t l)
    ∙ ap (λ (k : ℕ). take (g.count - 1) (set (rows g.records.now k) t (get_or (rows g.records.now k) (g.count - 1) []))) (sym (some_cells g t l))
    ∙ ap (λ (k : ℕ). take (k - 1) (set (rows_of g) t (get_or (rows_of g) (k - 1) []))) (sym (many g))

pub lift_cell-requires : goal.lift_cell-requires
lift_cell-requires c =
    let g = c.args.self.now in
    let t = c.args.t in
    let l = c.requires in
    let few = g.few in
    let room = g.standing.room in
    let f = facts_last g t l in
    record {
      up_to_last = omega arith;
      linked = record { low = omega arith; inside = omega arith; near = near_t g.records.now (g.count - 1) t (omega arith) f };
      last_linked = linked_p g.records.now (g.count - 1) t (omega arith) f (omega arith);
    }

pub invariant_of-self : goal.invariant_of-self
invariant_of-self c =
    let g = c.args.self.now in
    let t = c.args.t in
    let l = c.requires in
    let le : t ≤ g.count - 1 = omega arith in
    let f = facts_last g t l in
    record {
      few = few_so g.records.now c.lift_cell.new.cells (ap length c.lift_cell.ensures ∙ length_lifted g.records.now (g.count - 1) t le f) g.few;
      standing = standing_so (lifted_cells g.records.now (g.count - 1) t) _ (g.count - 1) _ c.lift_cell.ensures refl (lifted_facts g.records.now (g.count - 1) t le f);
    }

pub returns : goal.returns
returns c =
    let g = c.args.self.now in
    let t = c.args.t in
    let l = c.requires in
    record {
      list = ap (λ (z : List Cell). rows z (g.count - 1)) c.lift_cell.ensures ∙ rows_after g t l;
      places = ap length c.lift_cell.ensures ∙ length_lifted g.records.now (g.count - 1) t (omega arith) (facts_last g t l);
    }
