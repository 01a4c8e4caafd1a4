use Rattle.std.proofs.Common.{◌≡◌, ℕ, List, Some, sym, ◌∙◌, subst}
use Rattle.rules.specs.Readings.{reads}
use Rattle.rules.specs.Joins.{Joined, OnSkin}
use Rattle.rules.specs.Mates.{Beside}
use Rattle.halves.specs.declared.edge.Edge.{Edge}
use Rattle.halves.specs.declared.half_face.HalfFace.{HalfFace}
use Rattle.halves.specs.HalfFaces.{rows_of, OppositeOf}
use Rattle.halves.proofs.Grounds.{same_rows}
use Rattle.mates.specs.Edges.{Spans}
use Rattle.mates.proofs.Walking.{turning_none, turning_across, turning_more, turning_open, left_falls}
use Rattle.mates.proofs.walk.walk.Goals as goal

-- all that the walk comes to is of the ground where it began
module _ (here there o : HalfFace) (same : there.ground ≡ here.ground) (across : OppositeOf there (Some o)) where
  rows_across : rows_of o ≡ rows_of here
  rows_across = same_rows o here (across.0 ∙ same)

  joined_across : Joined (rows_of here) there.number o.number
  joined_across = subst (λ (rs : List (List ℕ)). Joined rs there.number o.number) (same_rows there here same) across.1

  beside_across : (edge : Edge) (n : ℕ) → Beside (rows_of o) edge.from edge.to o.number n → Beside (rows_of here) edge.from edge.to o.number n
  beside_across edge n = subst (λ (rs : List (List ℕ)). Beside rs edge.from edge.to o.number n) rows_across

pub loop-opposite-init : goal.loop-opposite-init
loop-opposite-init c =
    let here = c.args.here in let edge = c.args.edge in
    (c.beside-there.ensures.ground, turning_none (rows_of here) edge.from edge.to here.number c.beside-there.result.number c.requires.skin.0 c.requires.has c.beside-there.ensures.beside)

pub beside-there-requires-in-Some : goal.beside-there-requires-in-Some
beside-there-requires-in-Some c =
    let here = c.args.here in let edge = c.args.edge in let there = c.loop-opposite.there in let o = c.in-Some.opposite in
    let same = c.loop-opposite.invariant.0 in let across = c.in-Some.ensures in
    let w = turning_across (rows_of here) edge.from edge.to here.number there.number o.number c.loop-opposite.invariant.1 (joined_across here there o same across) in
    subst (λ (rs : List (List ℕ)). Spans (reads rs o.number) edge.from edge.to) (sym (rows_across here there o same across)) w.1

pub loop-opposite-smaller : goal.loop-opposite-smaller
loop-opposite-smaller c =
    let here = c.args.here in let edge = c.args.edge in let there = c.loop-opposite.there in let o = c.in-Some.opposite in
    let same = c.loop-opposite.invariant.0 in let across = c.in-Some.ensures in
    left_falls (rows_of here) here.lawful edge.from edge.to here.number c.requires.skin there.number o.number c.beside-there-in-Some.result.number
    c.loop-opposite.invariant.1 (joined_across here there o same across) (beside_across here there o same across edge _ c.beside-there-in-Some.ensures.beside)

pub loop-opposite-preserved : goal.loop-opposite-preserved
loop-opposite-preserved c =
    let here = c.args.here in let edge = c.args.edge in let there = c.loop-opposite.there in let o = c.in-Some.opposite in
    let same = c.loop-opposite.invariant.0 in let across = c.in-Some.ensures in (
      c.beside-there-in-Some.ensures.ground ∙ across.0 ∙ same,
      turning_more (rows_of here) edge.from edge.to here.number there.number o.number c.beside-there-in-Some.result.number
          c.loop-opposite.invariant.1 (joined_across here there o same across) (beside_across here there o same across edge _ c.beside-there-in-Some.ensures.beside),
    )

pub returns-clause-mate : goal.returns-clause-mate
returns-clause-mate c =
    let here = c.args.here in let edge = c.args.edge in let there = c.loop-opposite.there in
    turning_open (rows_of here) edge.from edge.to here.number there.number c.loop-opposite.invariant.1
    (subst (λ (rs : List (List ℕ)). OnSkin rs there.number) (same_rows there here c.loop-opposite.invariant.0) c.in_default.ensures)
