use Rattle.std.proofs.Common.{◌≡◌, ◌+◌, ◌*◌, ℕ, List, length, refl, ◌∙◌}
use Rattle.carry.specs.Corners.{corner_meaning}
use Rattle.rules.specs.Joins.{Joined, OnSkin, LawfulRows}
use Rattle.rules.specs.NetTests.{crossing}
use Rattle.rules.proofs.Webbed.{outside, partner_out}
use Rattle.rules.proofs.CornerNets.{across_none}
use Rattle.ground.specs.Grounds.{plain_sealed}
use Rattle.halves.proofs.Grounds.{said_of}
use Rattle.nets.proofs.Crossing.{crossing_told, crossing_open}
use Rattle.nets.proofs.corners.CornerNet.crossing.Goals as goal

pub returns-in_err-here : goal.returns-in_err-here
returns-in_err-here c =
    let rs = (plain_sealed c.args.self.now.ground.now).list in
    let i = c.args.item in
    let s = c.args.side in
    rw c.from_residual.ensures (across_none rs i s (partner_out rs i s (outside rs (length rs) i s refl c.in_err-here.ensures)))

pub returns-in_err-there : goal.returns-in_err-there
returns-in_err-there c =
    let sealed = c.args.self.now.ground in
    let i = c.args.item in
    let s = c.args.side in
    let here = c.in_ok-here.here in
    let at = c.in_ok-here.ensures in
    let law = said_of (λ (rs : List (List ℕ)) (h : ℕ). LawfulRows rs) here sealed (4 * i + s) at.0 at.1 here.lawful in
    let skin = said_of OnSkin here sealed (4 * i + s) at.0 at.1 c.in_err-there.ensures in
    rw c.from_residual-in_err-there.ensures (crossing_open (plain_sealed sealed.now).list law i s at.2 skin)

pub returns : goal.returns
returns c =
    let sealed = c.args.self.now.ground in
    let i = c.args.item in
    let s = c.args.side in
    let here = c.in_ok-here.here in
    let g = c.in_ok-there.there.number in
    let at = c.in_ok-here.ensures in
    let law = said_of (λ (rs : List (List ℕ)) (h : ℕ). LawfulRows rs) here sealed (4 * i + s) at.0 at.1 here.lawful in
    let joined = said_of (λ (rs : List (List ℕ)) (h : ℕ). Joined rs h g) here sealed (4 * i + s) at.0 at.1 c.in_ok-there.ensures.1 in
    said_of (λ (rs : List (List ℕ)) (h : ℕ). corner_meaning c.corners_between.result ≡ crossing rs h g) here sealed (4 * i + s) at.0 at.1 c.corners_between.ensures
    ∙ crossing_told (plain_sealed sealed.now).list law i s at.2 g joined
