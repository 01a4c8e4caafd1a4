use Rattle.std.proofs.Common.{rules}
use Rattle.skin.proofs.Sided.{step_told}
use Rattle.skin.proofs.net.SkinNetNet.step.Goals as goal

pub returns : goal.returns
returns c =
    let t = c.args.self.now in
    step_told t.count t.sides c.args.item c.args.side _ _ c.at.ensures c.map_or.ensures (λ x s. search rules)
