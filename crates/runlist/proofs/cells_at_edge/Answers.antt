use Rattle.std.proofs.Common.{ℕ, replicate, refl, rules}
use Rattle.std.proofs.lemmas.List.{length-replicate}
use Rattle.rules.specs.Questions.{AtEdge, EdgeStarCause}
use Rattle.ground.specs.Grounds.{plain_sealed}
use Rattle.runlist.specs.Obeyed.{answer}
use Rattle.runlist.proofs.Told.{listed}
use Rattle.runlist.proofs.cells_at_edge.Goals as goal

pub returns : goal.returns
returns c =
    let rs = (plain_sealed c.args.ground.now).list in
    let t = listed (EdgeStarCause rs c.args.v c.args.w) (AtEdge rs c.args.v c.args.w) (replicate 1024 0) c.edge_star.new.out c.edge_star.result c.map.result _ (length-replicate {A = ℕ} 1024 0) c.edge_star.ensures c.map.ensures.cases (λ n b h. search rules) in
    (answer _ c.map.result, (t.0, t.1, refl, t.2), c.say.ensures)
