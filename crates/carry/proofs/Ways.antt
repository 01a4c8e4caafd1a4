-- Ways over joins: what they lead to, and what they come to.
use Rattle.std.proofs.Common.{◌≡◌, ℕ, List, get_or, ap, ◌∙◌}
use Rattle.carry.specs.Kinds.{Kind}
use Rattle.carry.specs.Webs.{Web, Sound}
use Rattle.carry.specs.Agreement.{Reach, here, on, Agrees}
use Rattle.carry.specs.Walks.{Led, starts, goes}

pub reached : {w : Web} {k : Kind} {f i m : ℕ} → Led w k f i m → Reach w f i
reached starts = here
reached (goes l e) = on (reached l) e

pub reach_on : {w : Web} {a b c : ℕ} → Reach w a b → Reach w b c → Reach w a c
reach_on r here = r
reach_on r (on q e) = on (reach_on r q) e

pub reach_back : {w : Web} {k : Kind} {a b : ℕ} → Sound w k → Reach w a b → Reach w b a
reach_back s here = here
reach_back s (on {j = j} {s = t} {p = p} r e) = reach_on (on here (s.back j t p e)) (reach_back s r)

-- labels that agree and are neutral at f are what the ways from f come to
pub determined : {w : Web} {k : Kind} {f i m : ℕ} → (ls : List ℕ) → Agrees w k ls → get_or ls f 0 ≡ k.neutral → Led w k f i m → get_or ls i 0 ≡ m
determined ls a n starts = n
determined {w = w} {k = k} ls a n (goes {i = i} {s = s} {p = p} l e) = a i s p e ∙ ap (λ (x : ℕ). k.combined x (w.steps i s)) (determined ls a n l)
