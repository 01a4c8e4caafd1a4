-- The plain list that is fed the changes of a run: its answers are the only ones, and its rows stay lawful.
use Rattle.std.proofs.Common.{◌≡◌, ℕ, Bool, true, cond, List, [], ◌∷◌, ◌++◌, length, drop, Some, Ok, Err, Result, sym, refl, ap, ◌∙◌, subst, arith, length-drop, length-take}
use Rattle.refusal.specs.declared.Refusal.{Refusal}
use Rattle.carry.specs.declared.turn.Turn.{Turn}
use Rattle.rules.specs.Joins.{LawfulRows}
use Rattle.rules.specs.PlainList.{Plain}
use Rattle.rules.specs.Nets.{AllOpposed}
use Rattle.rules.proofs.Once.{lays_once, lifts_once, turns_once}
use Rattle.rules.proofs.Orienting.{orients_alike}
use Rattle.rules.proofs.Lasting.{lays_lawful, lifts_lawful, turns_lawful, orients_lawful, lifts_opposed, orients_opposed, lays_refused, turns_refused, orients_refused}
use Rattle.journal.specs.declared.calls.Part.{Part}
use Rattle.journal.specs.declared.calls.Change.{Change as AChange}
use Rattle.journal.specs.declared.calls.Change.TheVariants.{Orient}
use Rattle.journal.specs.declared.calls.Call.TheVariants.{Change}
use Rattle.journal.specs.declared.calls.Answer.TheVariants.{Number, Done}
use Rattle.journal.specs.declared.calls.Answer.{Answer}
use Rattle.journal.specs.Parts.{part_of, Fits}
use Rattle.journal.specs.Answers.{Came, replied}
use Rattle.journal.specs.Steps.{Changed, GivesParts}
use Rattle.journal.specs.Steps.Changed.{lays, lifts, turns, orients}
use Rattle.journal.specs.Promise.{was_made, kept, Feeds, Fed, calls_of, LayOrTurnAccepted}
use Rattle.journal.specs.Promise.Fed.{none, first}
use Rattle.journal.specs.Promise.LayOrTurnAccepted.{lay, turn}

-- ONE ANSWER

part_size : {A : Type 0} (k : Part) (xs : List A) → Fits k xs → length (part_of k xs) ≡ k.places
part_size k xs fits = let e = length-take k.places (drop k.from xs) in let d = length-drop k.from xs in omega arith

changed_once : {p q q' : Plain} {c : AChange} {xs xs' ys ys' : List Turn} {ms ms' ns ns' : List ℕ} {a b : Came}
    → GivesParts xs ms c → GivesParts ys ns c → Changed p q c xs ms a xs' ms' → Changed p q' c ys ns b ys' ns' → (a ≡ b) × (q ≡ q')
changed_once f g (lays r l) (lays r' l') = let e = lays_once _ _ r r' _ _ l l' in (ap (replied Number) e.0, e.1)
changed_once f g (lifts r l) (lifts r' l') = let e = lifts_once _ _ r r' _ _ l l' in (ap (replied (λ _. Done)) e.0, e.1)
changed_once f g (turns r l) (turns r' l') = let e = turns_once _ _ r r' _ _ l l' in (ap (replied (λ _. Done)) e.0, e.1)
changed_once {xs = xs} {ys = ys} {ms = ms} {ns = ns} f g (orients {k} {m} r l _ _) (orients r' l' _ _) =
    let e = orients_alike _ _ _ _ _ (part_size k xs f.0 ∙ sym (part_size k ys g.0)) (part_size m ms f.1 ∙ sym (part_size m ns g.1)) r r' _ _ _ _ _ _ l l' in
    (ap (replied Number) e.0, e.1)

pub feeds_once : (p q q' : Plain) (c : AChange) (a b : Came) → Feeds p c a q → Feeds p c b q' → (a ≡ b) × (q ≡ q')
feeds_once p q q' c a b f g = changed_once f.4 g.4 f.5 g.5

pub fed_once : {p q q' : Plain} {cs ds : List (AChange × Came)} → Fed p cs q → Fed p ds q' → calls_of cs ≡ calls_of ds → (cs ≡ ds) × (q ≡ q')
fed_once none none e = (refl, refl)
fed_once none (first f g) e = absurd (cc)
fed_once (first f g) none e = absurd (cc)
fed_once (first {p₁} {p₂} {p₃} {c} {a} {cs} f g) (first {p₂ = q₂} {p₃ = q₃} {c = d} {a = b} {cs = ds} f' g') e =
    let h : c ≡ d = cc in
    let t : calls_of cs ≡ calls_of ds = cc in
    let o = feeds_once p₁ p₂ q₂ c a b f (subst (λ (x : AChange). Feeds p₁ x b q₂) (sym h) f') in
    let r = fed_once g (subst (λ (x : Plain). Fed x ds q₃) (sym o.1) g') t in
    let i : (c, a) ≡ (d, b) = cc in
    (λ j. i j ∷ r.0 j, r.1)

-- PARTS OF A RUN

pub fed_more : {p q r : Plain} {cs ds : List (AChange × Came)} → Fed p cs q → Fed q ds r → Fed p (cs ++ ds) r
fed_more none g = g
fed_more (first f h) g = first f (fed_more h g)

pub fed_split : (cs ds : List (AChange × Came)) (p r : Plain) → Fed p (cs ++ ds) r → (q : Plain) × Fed p cs q × Fed q ds r
fed_split [] ds p r f = (p, none, f)
fed_split (c ∷ cs) ds p r (first f g) = let h = fed_split cs ds _ r g in (h.0, first f h.1, h.2)

-- WHAT LASTS

feeds_lawful : {p q : Plain} {c : AChange} {xs xs' : List Turn} {ms ms' : List ℕ} {a : Came} → Changed p q c xs ms a xs' ms' → LawfulRows p.list → LawfulRows q.list
feeds_lawful (lays r l) = lays_lawful _ _ r _ l
feeds_lawful (lifts r l) = lifts_lawful _ _ r _ l
feeds_lawful (turns r l) = turns_lawful _ _ r _ l
feeds_lawful (orients r l _ _) = orients_lawful _ _ _ r _ _ _ l

pub fed_lawful : {p q : Plain} {cs : List (AChange × Came)} → Fed p cs q → LawfulRows p.list → LawfulRows q.list
fed_lawful none l = l
fed_lawful (first f g) l = fed_lawful g (feeds_lawful f.5 l)

rows_same : {p q : Plain} → q ≡ p → AllOpposed p.list → AllOpposed q.list
rows_same e o = subst (λ (z : Plain). AllOpposed z.list) (sym e) o

-- an accepted lay or turn alone can undo an orientation
still_opposed : {p q : Plain} {c : AChange} {xs xs' : List Turn} {ms ms' : List ℕ} {a : Came} → Changed p q c xs ms a xs' ms'
    → (LayOrTurnAccepted (record { call = Change c; reply = a }) → ⊥) → LawfulRows p.list → AllOpposed p.list → AllOpposed q.list
still_opposed (lays (Ok n) l) calm w o = absurd (calm lay)
still_opposed (lays (Err c) l) calm w o = rows_same (lays_refused _ _ c _ l) o
still_opposed (lifts r l) calm w o = lifts_opposed _ _ r _ l o
still_opposed (turns (Ok u) l) calm w o = absurd (calm turn)
still_opposed (turns (Err c) l) calm w o = rows_same (turns_refused _ _ c _ l) o
still_opposed (orients (Ok n) l _ _) calm w o = orients_opposed _ _ _ n _ _ _ l w
still_opposed (orients (Err c) l _ _) calm w o = rows_same (orients_refused _ _ _ c _ _ _ l) o

abbrev pub Calm : List (AChange × Came) → Type 0
Calm [] = Unit {0}
Calm (x ∷ cs) = (LayOrTurnAccepted (record { call = Change x.0; reply = x.1 }) → ⊥) × Calm cs

pub fed_opposed : {p q : Plain} {cs : List (AChange × Came)} → Fed p cs q → Calm cs → LawfulRows p.list → AllOpposed p.list → AllOpposed q.list
fed_opposed none calm w o = o
fed_opposed (first f g) calm w o = fed_opposed g calm.1 (feeds_lawful f.5 w) (still_opposed f.5 calm.0 w o)

-- after an accepted orient all joined triangles read opposite ways
now_opposed : {p q : Plain} {c : AChange} {xs xs' : List Turn} {ms ms' : List ℕ} {a : Came} (k m : Part) (n : ℕ) → Changed p q c xs ms a xs' ms' → c ≡ Orient k m → a ≡ Some (Ok (Number n)) → LawfulRows p.list → AllOpposed q.list
now_opposed k m n (lays r l) e f w = absurd (cc)
now_opposed k m n (lifts r l) e f w = absurd (cc)
now_opposed k m n (turns r l) e f w = absurd (cc)
now_opposed k m n (orients (Ok i) l _ _) e f w = orients_opposed _ _ _ i _ _ _ l w
now_opposed k m n (orients (Err c) l _ _) e f w = absurd (cc)

pub oriented_now : (p q : Plain) (k m : Part) (n : ℕ) → Feeds p (Orient k m) (Some (Ok (Number n))) q → LawfulRows p.list → AllOpposed q.list
oriented_now p q k m n f w = now_opposed k m n f.5 refl refl w

-- THE CALLS THAT WERE MADE

replied_made : {A : Type 0} (tell : A → Answer) (r : Result A Refusal) → was_made (replied tell r) ≡ true
replied_made tell (Ok x) = refl
replied_made tell (Err c) = refl

changed_made : {p q : Plain} {c : AChange} {xs xs' : List Turn} {ms ms' : List ℕ} {a : Came} → Changed p q c xs ms a xs' ms' → was_made a ≡ true
changed_made (lays r l) = replied_made _ r
changed_made (lifts r l) = replied_made _ r
changed_made (turns r l) = replied_made _ r
changed_made (orients r l _ _) = replied_made _ r

pub fed_one : {p q : Plain} (c : AChange) (a : Came) {xs xs' : List Turn} {ms ms' : List ℕ} → GivesParts xs ms c → Changed p q c xs ms a xs' ms' → Fed p (kept c a) q
fed_one {p} {q} c a {xs} {xs'} {ms} {ms'} g ch =
    subst (λ (b : Bool). Fed p (cond b ((c, a) ∷ []) []) q) (sym (changed_made ch)) (first (xs, xs', ms, ms', g, ch) none)
