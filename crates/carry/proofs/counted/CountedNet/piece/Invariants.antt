use Rattle.std.proofs.Common.{◌≡◌, ℕ, List, map, drop}
use Rattle.carry.specs.Walks.{Walking, Grown, weight}
use Rattle.carry.proofs.counted.CountedNet.piece.Given as goal

abbrev pub invariant-loop-next : goal.invariant-loop-next
invariant-loop-next g l =
    let w = g.N.Net.web l.self.net.now in
    let f = g.N.Label.Label.meaning in
    Walking w l.marks l.item ×
    ((ms₀ ls₀ : List ℕ) → Grown w g.N.Label.Label.kind l.root ms₀ ls₀ l.initial.marks (map f l.initial.labels) → Grown w g.N.Label.Label.kind l.root ms₀ ls₀ l.marks (map f l.labels)) ×
    (drop l.self.count l.marks ≡ drop l.self.count l.initial.marks) ×
    (drop l.self.count l.labels ≡ drop l.self.count l.initial.labels)

abbrev pub decreases-loop-next : goal.decreases-loop-next
decreases-loop-next g l = weight l.marks
