use Rattle.std.proofs.Common.{◌≡◌, ℕ, ◌+◌, ◌*◌, ◌<◌, List, [], length, get_or, take, sym, ap, ◌∙◌, subst, arith}
use Rattle.std.proofs.lemmas.List.{length-take-le}
use Rattle.rules.specs.Tests.{on}
use Rattle.rules.proofs.Corners.{vertices_from}
use Rattle.ground.specs.Records.{rows, blank}
use Rattle.ground.specs.Searches.{Passed}
use Rattle.ground.proofs.Records.{length_rows, row_taken}
use Rattle.ground.proofs.Faces.{face_to, passed_more}
use Rattle.ground.proofs.Shared.{met_none, met_some}
use Rattle.ground.proofs.joined.Joined.scan.Goals as goal

pub returns-in_err-found : goal.returns-in_err-found
returns-in_err-found c =
    let cs = c.args.self.now.records.now in
    let n = c.args.self.now.count in
    let room = c.args.self.now.standing.room in
    let t = c.loop-t.t in
    let y = (get_or (take n cs) t blank).corners in
    let l : t < n = omega (arith, c.loop-t-test.true, length-take-le n cs room) in
    let m : t < length (rows cs n) = rw (length_rows cs n room) l in
    rw c.from_residual.ensures (
      t,
      m,
      vertices_from (get_or (rows cs n) t []) c.args.corners
          (λ v. ap (λ (z : List ℕ). on z 4 v) (row_taken cs n t room l)
          ∙ face_to y 4 c.args.corners 4 (met_none c.loop-t.found c.args.corners y (4 * t) c.in_err-found.ensures) v),
    )

pub loop-t-preserved : goal.loop-t-preserved
loop-t-preserved c =
    let cs = c.args.self.now.records.now in
    let n = c.args.self.now.count in
    let room = c.args.self.now.standing.room in
    let t = c.loop-t.t in
    let y = (get_or (take n cs) t blank).corners in
    let l : t < n = omega (arith, c.loop-t-test.true, length-take-le n cs room) in
    let m = met_some c.loop-t.found c.in_ok-found.found c.args.corners y (4 * t) c.in_ok-found.ensures in
    subst (Passed (rows cs n) c.args.corners (t + 1)) (sym m.1)
    (passed_more (rows cs n) c.args.corners t c.loop-t.found y (row_taken cs n t room l) m.0 c.loop-t.invariant)

pub returns : goal.returns
returns c =
    let cs = c.args.self.now.records.now in
    let n = c.args.self.now.count in
    let room = c.args.self.now.standing.room in
    let e : c.loop-t.t ≡ length (rows cs n) = omega (arith, c.loop-t-test.false, c.loop-t.auto.t-end, length-take-le n cs room, length_rows cs n room) in
    subst (λ (k : ℕ). Passed (rows cs n) c.args.corners k c.loop-t.found) e c.loop-t.invariant
