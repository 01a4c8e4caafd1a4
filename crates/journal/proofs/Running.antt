-- What a run does to a ground: it feeds the plain list the changes that were made, and nothing else.
use Rattle.std.proofs.Common.{◌≡◌, ℕ, Bool, true, false, cond, Some, Ok, List, [], ◌∷◌, ◌++◌, sym, refl, ap, ◌∙◌, subst, append_assoc}
use Rattle.rules.specs.Joins.{LawfulRows}
use Rattle.rules.specs.PlainList.{Plain}
use Rattle.rules.specs.Nets.{AllOpposed}
use Rattle.rules.proofs.Keeping.{lawful_none}
use Rattle.journal.specs.declared.calls.Part.{Part}
use Rattle.journal.specs.declared.calls.Change.{Change as AChange}
use Rattle.journal.specs.declared.calls.Change.TheVariants.{Orient}
use Rattle.journal.specs.declared.calls.Question.{Question}
use Rattle.journal.specs.declared.calls.Question.TheVariants.{Counts, Changes, Reading, Opposite, Mate, Star, EdgeStar, Skin, EdgeSound, VertexSound, FindFace, FindEdge, CarryTurns, CarryCorners, CarrySkin}
use Rattle.journal.specs.declared.calls.Call.{Call}
use Rattle.journal.specs.declared.calls.Call.TheVariants.{Change, Seal, Reopen, Ask, Carry}
use Rattle.journal.specs.declared.calls.Answer.TheVariants.{Number}
use Rattle.journal.specs.declared.calls.Exchange.{Exchange}
use Rattle.journal.specs.Answers.{Came}
use Rattle.journal.specs.States.{Ground, made, Given, State}
use Rattle.journal.specs.Steps.{Asked, Allowed, Does, Tried, Step}
use Rattle.journal.specs.Steps.Tried.{makes, passes}
use Rattle.journal.specs.Runs.{Run, Replay}
use Rattle.journal.specs.Runs.Run.{none, first}
use Rattle.journal.specs.Runs.Replay.{none as no_more, first as and_then}
use Rattle.journal.specs.Promise.{kept, change_of, changes_of, Fed, LayOrTurnAccepted, NoLayOrTurn, Oriented}
use Rattle.journal.specs.Promise.Fed.{none as fed-none, first as fed-first}
use Rattle.journal.proofs.Feeding.{fed_more, fed_split, fed_lawful, Calm, fed_opposed, oriented_now, fed_one}

-- QUESTIONS LEAVE THE GROUND

same_ground : {M : Type 0} {s s' : State M} → s' ≡ s → s'.ground ≡ s.ground
same_ground {M} e = ap (λ (z : State M). z.ground) e

asked_stands : {M : Type 0} (s : State M) (q : Question) (a : Came) (s' : State M) → Asked s q a s' → s'.ground ≡ s.ground
asked_stands s Counts a s' h = same_ground h.3
asked_stands s Changes a s' h = same_ground h.1
asked_stands s (Reading _) a s' h = same_ground h.3
asked_stands s (Opposite _) a s' h = same_ground h.3
asked_stands s (Mate _ _) a s' h = same_ground h.3
asked_stands {M} s (Star _ _) a s' h = ap (λ (z : State M). z.ground) h.1
asked_stands {M} s (EdgeStar _ _ _) a s' h = ap (λ (z : State M). z.ground) h.1
asked_stands {M} s (Skin _) a s' h = ap (λ (z : State M). z.ground) h.1
asked_stands s (EdgeSound _ _) a s' h = same_ground h.3
asked_stands s (VertexSound _) a s' h = same_ground h.3
asked_stands s (FindFace _ _) a s' h = same_ground h.3
asked_stands s (FindEdge _ _) a s' h = same_ground h.3
asked_stands {M} s (CarryTurns _ _) a s' h = ap (λ (z : State M). z.ground) h.3
asked_stands {M} s (CarryCorners _ _) a s' h = ap (λ (z : State M). z.ground) h.3
asked_stands {M} s (CarrySkin _ _) a s' h = ap (λ (z : State M). z.ground) h.3

-- FEEDING

fed_nothing : {p q : Plain} → q ≡ p → Fed p [] q
fed_nothing {p} {q} e = subst (λ (z : Plain). Fed p [] z) (sym e) fed-none

same_plain : (g g' : Ground) → g' ≡ g → g'.plain ≡ g.plain
same_plain g g' e = ap (λ (z : Ground). z.plain) e

step_fed : {M : Type 0} (e : Given M) (s : State M) (x : Call) (a : Came) (s' : State M) → Tried (Allowed s x) (Does e s x a s') a s s' → Fed s.ground.plain (change_of x a) s'.ground.plain
step_fed e s (Change c) a s' (makes al d) = fed_one c a al.1 d.0
step_fed {M} e s (Change c) a s' (passes _ n h) =
    subst (λ (b : Came). Fed s.ground.plain (kept c b) s'.ground.plain) (sym n) (fed_nothing (same_plain s.ground s'.ground (same_ground h)))
step_fed {M} e s Seal a s' (makes al d) = fed_nothing (ap (λ (z : State M). z.ground.plain) d.1)
step_fed e s Seal a s' (passes _ n h) = fed_nothing (same_plain s.ground s'.ground (same_ground h))
step_fed {M} e s Reopen a s' (makes al d) = fed_nothing (ap (λ (z : State M). z.ground.plain) d.1)
step_fed e s Reopen a s' (passes _ n h) = fed_nothing (same_plain s.ground s'.ground (same_ground h))
step_fed e s (Ask q) a s' (makes al d) = fed_nothing (same_plain s.ground s'.ground (asked_stands s q a s' d))
step_fed e s (Ask q) a s' (passes _ n h) = fed_nothing (same_plain s.ground s'.ground (same_ground h))
step_fed {M} e s (Carry k m) a s' (makes al d) = fed_nothing (ap (λ (z : State M). z.ground.plain) d.1)
step_fed e s (Carry k m) a s' (passes _ n h) = fed_nothing (same_plain s.ground s'.ground (same_ground h))

pub run_fed : {M : Type 0} {g g' : Ground} {log : List Exchange} → Run M g log g' → Fed g.plain (changes_of log) g'.plain
run_fed none = fed-none
run_fed {M} (first {g₁} {g₂} {g₃} {x} {log} e s s' p q st r) =
    let f = step_fed e s x.call x.reply s' st in
    fed_more
    (subst (λ (z : Ground). Fed z.plain (change_of x.call x.reply) g₂.plain) p (subst (λ (z : Ground). Fed s.ground.plain (change_of x.call x.reply) z.plain) q f))
    (run_fed r)

pub run_lawful : {M : Type 0} {g : Ground} (n : ℕ) (log : List Exchange) → Run M (made n) log g → LawfulRows g.plain.list
run_lawful n log r = fed_lawful (run_fed r) lawful_none

-- ONCE ORIENTED

changes_append : (before since : List Exchange) → changes_of (before ++ since) ≡ changes_of before ++ changes_of since
changes_append [] since = refl
changes_append (x ∷ before) since =
    ap (λ (l : List (AChange × Came)). change_of x.call x.reply ++ l) (changes_append before since)
    ∙ sym (append_assoc (change_of x.call x.reply) (changes_of before) (changes_of since))

calm_both : (cs ds : List (AChange × Came)) → Calm cs → Calm ds → Calm (cs ++ ds)
calm_both [] ds c d = d
calm_both (x ∷ cs) ds c d = (c.0, calm_both cs ds c.1 d)

calm_kept : (b : Bool) (c : AChange) (a : Came) → (LayOrTurnAccepted (record { call = Change c; reply = a }) → ⊥) → Calm (cond b ((c, a) ∷ []) [])
calm_kept true c a n = (n, tt)
calm_kept false c a n = tt

calm_one : (x : Call) (a : Came) → (LayOrTurnAccepted (record { call = x; reply = a }) → ⊥) → Calm (change_of x a)
calm_one (Change c) a n = calm_kept _ c a n
calm_one Seal a n = tt
calm_one Reopen a n = tt
calm_one (Ask q) a n = tt
calm_one (Carry k m) a n = tt

calm_changes : (log : List Exchange) → NoLayOrTurn log → Calm (changes_of log)
calm_changes [] q = tt
calm_changes (x ∷ log) q = calm_both (change_of x.call x.reply) (changes_of log) (calm_one x.call x.reply q.0) (calm_changes log q.1)

-- the changes of a journal with an accepted orient in it
split_changes : (before since : List Exchange) (k m : Part) (n : ℕ)
    → changes_of (before ++ record { call = Change (Orient k m); reply = Some (Ok (Number n)) } ∷ since) ≡ changes_of before ++ (Orient k m, Some (Ok (Number n))) ∷ changes_of since
split_changes before since k m n = changes_append before (record { call = Change (Orient k m); reply = Some (Ok (Number n)) } ∷ since)

pub fed_oriented : {p q : Plain} (log : List Exchange) → Fed p (changes_of log) q → LawfulRows p.list → Oriented log → AllOpposed q.list
fed_oriented {p} {q} log f w o =
    let a = o.accepted in
    let e : changes_of log ≡ changes_of o.before ++ (Orient a.0 a.1, Some (Ok (Number a.2))) ∷ changes_of o.since =
    ap changes_of o.journal
    ∙ ap (λ (x : Exchange). changes_of (o.before ++ x ∷ o.since)) a.3
    ∙ split_changes o.before o.since a.0 a.1 a.2 in
    let h = fed_split (changes_of o.before) ((Orient a.0 a.1, Some (Ok (Number a.2))) ∷ changes_of o.since) p q (subst (λ (l : List (AChange × Came)). Fed p l q) e f) in
    after o.since a.0 a.1 a.2 o.quiet h.2 (fed_lawful h.1 w)
  where
    after : {m q : Plain} (since : List Exchange) (k j : Part) (n : ℕ) → NoLayOrTurn since → Fed m ((Orient k j, Some (Ok (Number n))) ∷ changes_of since) q → LawfulRows m.list → AllOpposed q.list
    after since k j n quiet (fed-first f g) w = fed_opposed g (calm_changes since quiet) (fed_lawful (fed-first f fed-none) w) (oriented_now _ _ k j n f w)

-- A REPLAY IS A RUN

pub replay_run : {M : Type 0} {e : Given M} {s s' : State M} {log : List Exchange} → Replay e s log s' → Run M s.ground log s'.ground
replay_run no_more = none
replay_run {M} {e} (and_then {s₁} {s₂} st r) = first e s₁ s₂ refl refl st (replay_run r)

pub replay_more : {M : Type 0} {e : Given M} {s s₁ s₂ : State M} {log : List Exchange} (x : Exchange) → Replay e s log s₁ → Step e s₁ x s₂ → Replay e s (log ++ x ∷ []) s₂
replay_more x no_more st = and_then st no_more
replay_more x (and_then t r) st = and_then t (replay_more x r st)
