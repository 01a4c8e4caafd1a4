use Rattle.std.proofs.Common.{◌≡◌, map, drop}
use Rattle.carry.proofs.Sweep.{Swept}
use Rattle.carry.proofs.counted.CountedNet.spread.Given as goal

abbrev pub invariant-loop-root : goal.invariant-loop-root
invariant-loop-root g l =
    Swept (g.N.Net.web l.self.net.now) g.N.Label.Label.kind l.root l.marks (map g.N.Label.Label.meaning l.labels) l.pieces ×
    (drop l.self.count l.marks ≡ drop l.self.count l.initial.marks) ×
    (drop l.self.count l.labels ≡ drop l.self.count l.initial.labels)
