use Rattle.std.proofs.Common.{Some, sym, ap, ◌∙◌}
use Rattle.skin.specs.declared.side.Side.{Side}
use Rattle.skin.specs.SkinTables.{side_of}
use Rattle.skin.proofs.Sided.{join_in, join_out}
use Rattle.skin.proofs.net.SkinNetNet.join.Goals as goal

pub returns-in_err-mate : goal.returns-in_err-mate
returns-in_err-mate c =
    let t = c.args.self.now in
    rw c.from_residual.ensures (sym (join_out t.count t.sides c.args.item c.args.side c.in_err-mate.ensures))

pub returns : goal.returns
returns c =
    let t = c.args.self.now in
    let at = c.in_ok-mate.ensures in
    ap (λ (x : Side). Some (side_of x.mate)) at.2 ∙ sym (join_in t.count t.sides c.args.item c.args.side at.0 at.1)
