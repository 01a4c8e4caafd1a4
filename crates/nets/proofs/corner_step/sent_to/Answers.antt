use Rattle.std.proofs.Common.{sym, ◌∙◌, arith}
use Rattle.rules.proofs.CornerNets.{sent_entered, sent_other}
use Rattle.nets.proofs.corner_step.sent_to.Goals as goal

pub returns-then-k-entered : goal.returns-then-k-entered
returns-then-k-entered c = sym (sent_entered c.args.here c.args.side c.args.there c.args.entered c.args.k (omega arith))

pub returns-else-k-entered : goal.returns-else-k-entered
returns-else-k-entered c = c.corner_at.ensures ∙ sym (sent_other c.args.here c.args.side c.args.there c.args.entered c.args.k (omega arith))
