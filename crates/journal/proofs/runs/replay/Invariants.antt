use Rattle.std.proofs.Common.{◌≡◌, map, take}
use Rattle.journal.specs.declared.calls.Exchange.{Exchange}
use Rattle.journal.specs.States.{net_of, state_of}
use Rattle.journal.specs.Stages.{ground_of}
use Rattle.journal.specs.Runs.{Replay}
use Rattle.journal.proofs.runs.replay.Given as goal

-- the calls are those of the journal, and those before this one are replayed
abbrev pub invariant-loop-exchange : goal.invariant-loop-exchange
invariant-loop-exchange g l =
    (map (λ (x : Exchange). x.call) l.journal ≡ map (λ (x : Exchange). x.call) l.initial.journal)
    × Replay (net_of (g.N.Net.web l.net) g.N.Label.Label.kind g.N.Label.Label.meaning)
    (state_of (ground_of l.initial.ground) l.initial.desk)
    (take l.exchange-index l.journal)
    (state_of (ground_of l.ground) l.desk)
