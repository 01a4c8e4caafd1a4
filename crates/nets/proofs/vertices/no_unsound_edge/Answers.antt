use Rattle.std.proofs.Common.{◌≡◌, ℕ, Bool, true, ◌↔◌, List, Ok, Err, Result, refl}
use Rattle.std.specs.Result.{result_unwrap_or}
use Rattle.refusal.specs.declared.Refusal.{Refusal}
use Rattle.refusal.specs.declared.Refusal.TheVariants.{VerticesEqual}
use Rattle.rules.specs.Joins.{LawfulRows}
use Rattle.rules.specs.Soundness.{Edge, EdgeSound, TellsEdgeSound}
use Rattle.rules.specs.Soundness.EdgeSoundCause.{equal}
use Rattle.rules.proofs.Sounding.{edge_there}
use Rattle.ground.specs.Grounds.{plain_sealed}
use Rattle.nets.proofs.vertices.no_unsound_edge.Goals as goal

-- what is told of an edge; an edge is never refused
told : (rs : List (List ℕ)) (v w : ℕ) → LawfulRows rs → (r : Result Bool Refusal) → TellsEdgeSound rs v w r → (result_unwrap_or r true ≡ true) ↔ (Edge rs v w → EdgeSound rs v w)
told rs v w law (Ok b) h = (λ e _. h.1.0 e, λ f. h.1.1 (λ s t x y. f ((λ q. h.0 VerticesEqual (equal q)), (s, x)) s t x y))
told rs v w law (Err c) h = (λ _ e. absurd (edge_there rs v w law c h.applies e), λ _. refl)

pub returns : goal.returns
returns c =
    let t = told (plain_sealed c.args.ground.now).list c.args.v c.args.w c.counts.ensures.lawful c.edge_sound.result c.edge_sound.ensures in
    rw c.unwrap_or.ensures t
