use Rattle.std.proofs.Common.{Some, None, ◌∙◌, arith}
use Rattle.rules.specs.NetTests.{turning}
use Rattle.ground.proofs.Viewed.{across, view_step}
use Rattle.ground.specs.Nets.{joined_rows}
use Rattle.ground.proofs.turn_net.TurnNetNet.step.Goals as goal

pub turn_between-requires : goal.turn_between-requires
turn_between-requires c =
    let a = across c.args.self.now.cells c.args.item c.args.side c.in-Some.g c.in-Some.ensures in
    let i = a.item in
    let s = a.side in
    (omega arith, a.there)

pub returns-in-Some : goal.returns-in-Some
returns-in-Some c =
    let t = c.args.self.now.cells in
    c.turn_between.ensures ∙ view_step t 0 (turning (joined_rows t)) c.args.item c.args.side (Some c.in-Some.g) c.in-Some.ensures

pub returns-in-None : goal.returns-in-None
returns-in-None c = let t = c.args.self.now.cells in view_step t 0 (turning (joined_rows t)) c.args.item c.args.side None c.in-None.ensures

pub overflow_mul-item : goal.overflow_mul-item
overflow_mul-item c =
    let t = c.args.self.now.cells in
    let a = across t c.args.item c.args.side c.in-Some.g c.in-Some.ensures in
    let i = a.item in
    let f = t.few in
    let r = t.standing.room in
    omega arith

pub overflow_add-item : goal.overflow_add-item
overflow_add-item c =
    let t = c.args.self.now.cells in
    let a = across t c.args.item c.args.side c.in-Some.g c.in-Some.ensures in
    let i = a.item in
    let s = a.side in
    let f = t.few in
    let r = t.standing.room in
    omega arith
