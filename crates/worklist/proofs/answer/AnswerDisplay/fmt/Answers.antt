use Rattle.std.proofs.Common.{◌∷◌, ◌++◌, List, ℕ, get_or, take, decimal, sym, ap, ◌∙◌, codes, append_assoc, rules}
use Rattle.std.proofs.Output.{has_written_append, has_written_of_eq}
use Rattle.worklist.specs.Written.{spaced}
use Rattle.worklist.proofs.Puts.{spaced_more}
use Rattle.worklist.proofs.answer.AnswerDisplay.fmt.Goals as goal

pub loop-n-preserved : goal.loop-n-preserved
loop-n-preserved g c = λ plain.
    let ns = c.in-Ok.numbers.now in
    let so_far = spaced (take c.loop-n.n-index ns) in
    let more = 32 ∷ decimal (get_or ns c.loop-n.n-index 0) in
    has_written_of_eq _ _ _ _ _ (append_assoc (codes "ok") so_far more ∙ ap (λ (z : List ℕ). codes "ok" ++ z) (sym (spaced_more ns c.loop-n.n-index c.loop-n-test.true)))
    (has_written_append _ _ _ _ more _ (c.loop-n.invariant plain) (search rules))
