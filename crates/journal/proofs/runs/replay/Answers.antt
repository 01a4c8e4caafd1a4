use Rattle.std.proofs.Common.{◌≡◌, ℕ, ◌+◌, ◌<◌, ◌≤◌, min, false, List, map, length, get_or, take, set, sym, refl, ap, ◌∙◌, subst, arith}
use Rattle.std.proofs.lemmas.List.{take_more_set, take_all, map-set, set-get_or, get_or-map}
use Rattle.ground.specs.Grounds.{plain}
use Rattle.rules.specs.PlainList.{Plain, empty}
use Rattle.journal.specs.declared.calls.Call.{Call}
use Rattle.journal.specs.declared.calls.Exchange.{Exchange}
use Rattle.journal.specs.declared.desk.Desk.{Desk}
use Rattle.journal.specs.Answers.{Came}
use Rattle.journal.specs.States.{Ground, made, standing, Given, State, state_of}
use Rattle.journal.specs.Stages.{ground_of}
use Rattle.journal.specs.Steps.{Step}
use Rattle.journal.specs.Runs.{Replay}
use Rattle.journal.specs.Runs.Replay.{none}
use Rattle.journal.specs.Promise.{Replayed}
use Rattle.journal.proofs.Running.{replay_run, replay_more}
use Rattle.journal.proofs.Promised.{kept, promised}
use Rattle.journal.proofs.runs.replay.Goals as goal

-- one call more
more : {M : Type 0} (e : Given M) (s s₁ s₂ : State M) (log : List Exchange) (i : ℕ) (d : Exchange) (a : Came) → i < length log → Replay e s (take i log) s₁
    → Step e s₁ (record { call = (get_or log i d).call; reply = a }) s₂ → Replay e s (take (i + 1) (set log i (record { call = (get_or log i d).call; reply = a }))) s₂
more e s s₁ s₂ log i d a h r p =
    subst (λ (l : List Exchange). Replay e s l s₂) (sym (take_more_set log i (record { call = (get_or log i d).call; reply = a }) h)) (replay_more (record { call = (get_or log i d).call; reply = a }) r p)

-- a reply written down leaves the call
same_calls : (log : List Exchange) (i : ℕ) (d : Exchange) (a : Came) → i < length log → map (λ (x : Exchange). x.call) (set log i (record { call = (get_or log i d).call; reply = a })) ≡ map (λ (x : Exchange). x.call) log
same_calls log i d a h =
    map-set (λ (x : Exchange). x.call) log i (record { call = (get_or log i d).call; reply = a })
    ∙ ap (λ (c : Call). set (map (λ (x : Exchange). x.call) log) i c) (sym (get_or-map (λ (x : Exchange). x.call) log i d d.call h))
    ∙ set-get_or (map (λ (x : Exchange). x.call) log) i d.call

-- all calls are made
ended : {M : Type 0} (e : Given M) (n : ℕ) (p q : Plain) (d d' : Desk M) (g : Ground) (log log₀ : List Exchange) (i : ℕ) → p ≡ empty (min n 1024) → q ≡ g.plain → length log ≤ i
    → map (λ (x : Exchange). x.call) log ≡ map (λ (x : Exchange). x.call) log₀ → Replay e (state_of (standing false p) d) (take i log) (state_of g d') → Replayed e n log₀ log (state_of (made n) d) (λ b. state_of (standing b q) d')
ended {M} e n p q d d' g log log₀ i start end all calls r =
    let whole = subst (λ (l : List Exchange). Replay e (state_of (made n) d) l (state_of (standing g.sealed q) d')) (take_all i log all)
    (subst (λ (z : Plain). Replay e (state_of (made n) d) (take i log) (state_of (standing g.sealed z) d')) (sym end)
    (subst (λ (z : Plain). Replay e (state_of (standing false z) d) (take i log) (state_of g d')) start r)) in
    record { calls = calls; sealed = g.sealed; replay = whole; kept = kept n log (standing g.sealed q) (replay_run whole) }

pub loop-exchange-init : goal.loop-exchange-init
loop-exchange-init g c = (refl, none)

pub loop-exchange-preserved : goal.loop-exchange-preserved
loop-exchange-preserved g c =
    let h : c.loop-exchange.exchange-index < length c.loop-exchange.journal = omega arith in (
      same_calls c.loop-exchange.journal c.loop-exchange.exchange-index _ c.step-next.result.1 h ∙ c.loop-exchange.invariant.0,
      more _ _ _ _ c.loop-exchange.journal c.loop-exchange.exchange-index _ c.step-next.result.1 h c.loop-exchange.invariant.1 c.step-next.ensures,
    )

pub returns-clause-promise : goal.returns-clause-promise
returns-clause-promise g c = promised _

pub returns-clause-replayed : goal.returns-clause-replayed
returns-clause-replayed g c =
    ended _ (length c.args.places.now) (plain c.make.result) (plain c.opened.result) c.args.desk.now c.loop-exchange.desk (ground_of c.loop-exchange.ground)
    c.loop-exchange.journal c.args.journal.now c.loop-exchange.exchange-index c.make.ensures c.opened.ensures (omega (arith, c.loop-exchange.auto.journal)) c.loop-exchange.invariant.0 c.loop-exchange.invariant.1
