use Rattle.std.proofs.Common.{ℕ, List, take, replicate, Result, subst}
use Rattle.refusal.specs.declared.Refusal.{Refusal}
use Rattle.index.specs.declared.entry.Entry.{Entry}
use Rattle.index.specs.declared.keys.Pair.{Pair}
use Rattle.index.specs.Held.{held}
use Rattle.index.specs.Keys.{pair_order}
use Rattle.indexes.specs.Edges.{EdgeEntries}
use Rattle.indexes.specs.Lists.{Makes}
use Rattle.ground.specs.Grounds.{plain_sealed}
use Rattle.journal.proofs.Finding.{found, enough}
use Rattle.journal.proofs.found.find_edge.Goals as goal

pub returns : goal.returns
returns c =
    let Right = EdgeEntries (plain_sealed c.args.ground.now).list in
    let entry : Entry Pair = record { key = c.args.key; half_face = 0 } in
    let free : List (Entry Pair) = take c.args.places (replicate 12288 entry) in
    let index = held c.edge_index-index.result.0 in
    found Right pair_order c.args.key c.args.places free (enough 12288 entry c.args.places c.requires) index c.in_ok-answer.field-0 c.find.result
    (subst (λ (r : Result ℕ Refusal). Makes Right free r index) c.in_ok-answer.was c.edge_index-index.ensures) c.find.ensures
