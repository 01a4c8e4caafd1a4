use Rattle.std.proofs.Common.{ℕ, replicate, refl, rules}
use Rattle.std.proofs.lemmas.List.{length-replicate}
use Rattle.rules.specs.Questions.{AtVertex, StarCause}
use Rattle.ground.specs.Grounds.{plain_sealed}
use Rattle.runlist.specs.Obeyed.{answer}
use Rattle.runlist.proofs.Told.{listed}
use Rattle.runlist.proofs.cells_at_vertex.Goals as goal

pub returns : goal.returns
returns c =
    let rs = (plain_sealed c.args.ground.now).list in
    let t = listed (StarCause rs c.args.v) (AtVertex rs c.args.v) (replicate 1024 0) c.star.new.out c.star.result c.map.result _ (length-replicate {A = ℕ} 1024 0) c.star.ensures c.map.ensures.cases (λ n b h. search rules) in
    (answer _ c.map.result, (t.0, t.1, refl, t.2), c.say.ensures)
