-- The two nets of rows and orient, by computation.
use Rattle.std.proofs.Common.{◌≡◌, ℕ, ◌+◌, ◌*◌, ◌/◌, ◌<◌, ◌≤◌, Bool, true, false, not, ◌&&◌, eqb, ltb, leb, List, [], ◌∷◌, map, length, get_or, sym, refl, ap, ◌∙◌, subst, ⊎_elim, arith}
use Rattle.std.proofs.lemmas.Bool.{and_parts, cond-true, cond-false, ltb-true, leb-true, eqb-true, not-true, false≢true}
use Rattle.refusal.specs.declared.Refusal.{Refusal}
use Rattle.refusal.specs.declared.Refusal.TheVariants.{NoLabelsAgree}
use Rattle.refusal.specs.Numbers.{number_of}
use Rattle.refusal.specs.Causes.{First, NoCause}
use Rattle.carry.specs.declared.net.Place.{Place}
use Rattle.carry.specs.declared.turn.Turn.{Turn}
use Rattle.carry.specs.declared.turn.Turn.TheVariants.{Straight, Turned}
use Rattle.carry.specs.Digits.{number}
use Rattle.carry.specs.Turns.{turn_meaning}
use Rattle.carry.specs.Webs.{Web}
use Rattle.carry.specs.Agreement.{Agreeing, NoneAgree}
use Rattle.carry.specs.FourDigits.{all, all_at}
use Rattle.rules.specs.Joins.{NoThree}
use Rattle.rules.specs.PlainList.{Plain}
use Rattle.rules.specs.Nets.{JoinedSides, CellWeb, CornerWeb, TurnWeb, TurnsAgree, TurnedMany, AllDiffer, NoChoice, Orientation, turned_by}
use Rattle.rules.specs.Orients.{OrientCause}
use Rattle.rules.specs.Orients.OrientCause.{few_labels, few_marks, none_agree}
use Rattle.rules.specs.Tests.{repeat_test, picks}
use Rattle.rules.specs.NetTests.{alike, turning, crossing, turn_web, corner_web}
use Rattle.rules.proofs.CornerNets.{distinct, crossing_sides, step_only, corner_web_is}
use Rattle.rules.proofs.Counted.{counts_picks}
use Rattle.rules.proofs.Judged.{not_repeated}
use Rattle.rules.proofs.TurnNets.{alike_true, alike_false, alike_cases, turn_web_is, opposed_agree}
use Rattle.cases.specs.Cases.{Net, WebOf, Label, meaning, kind, OfNet, LongEnough}
use Rattle.cases.specs.Cases.Net.{turns, corners}
use Rattle.cases.proofs.Finite.{every, every_at}
use Rattle.cases.proofs.Halves.{none_crowded, no_three}
use Rattle.cases.proofs.Webs.{carries, carried, changes, round, label_at}

-- THE TWO NETS

-- four different vertices in each row, and no triangle in three half-faces
unfoldable pub lawful : List (List ℕ) → Bool
lawful rs = every (length rs) (λ t. not (repeat_test (get_or rs t []))) && none_crowded rs

pub lawful_so : (rs : List (List ℕ)) → lawful rs ≡ true → AllDiffer rs × NoThree rs
unfolding lawful
lawful_so rs e =
    let a = and_parts (every (length rs) (λ t. not (repeat_test (get_or rs t [])))) _ e in
    ((λ t l. not_repeated (get_or rs t []) (not-true _ (every_at (length rs) (λ t. not (repeat_test (get_or rs t []))) a.0 t l))), no_three rs a.1)

-- the step from a half-face to its opposite
unfoldable pub step : Net → List (List ℕ) → ℕ → ℕ → ℕ
step turns = turning
step corners = crossing

cells : (n : Net) (rs : List (List ℕ)) (w : Web) → WebOf n rs w → CellWeb rs w
cells turns rs w t = t.cells
cells corners rs w t = t.cells

turn_step : (rs : List (List ℕ)) (w : Web) → TurnWeb rs w → (i s : ℕ) (p : Place) → JoinedSides rs i s p → w.steps i s ≡ turning rs (4 * i + s) (4 * p.item + p.side)
turn_step rs w t i s p j =
    let h = 4 * i + s in
    let g = 4 * p.item + p.side in
    ⊎_elim
    (λ a. t.alike i s p j a ∙ sym (cond-true (alike rs h g) 1 0 (alike_true rs h g a)))
    (λ a. t.unlike i s p j a ∙ sym (cond-false (alike rs h g) 1 0 (alike_false rs h g a)))
    (alike_cases rs h g)

corner_step : (rs : List (List ℕ)) → AllDiffer rs → (w : Web) → CornerWeb rs w → (i s : ℕ) (p : Place) → JoinedSides rs i s p → w.steps i s ≡ crossing rs (4 * i + s) (4 * p.item + p.side)
corner_step rs d w c i s p j =
    step_only (get_or rs i []) (get_or rs p.item []) s p.side (w.steps i s) (crossing rs (4 * i + s) (4 * p.item + p.side))
    (distinct (get_or rs i []) (d i j.item)) (c.across i s p j) (crossing_sides rs d i s p j)

steps : (n : Net) (rs : List (List ℕ)) → AllDiffer rs → (w : Web) → WebOf n rs w → (i s : ℕ) (p : Place) → JoinedSides rs i s p → w.steps i s ≡ step n rs (4 * i + s) (4 * p.item + p.side)
unfolding step
steps turns rs d w t = turn_step rs w t
steps corners rs d w t = corner_step rs d w t

web : (n : Net) (rs : List (List ℕ)) → AllDiffer rs → NoThree rs → (w : Web) × WebOf n rs w
web turns rs d t = (turn_web rs, turn_web_is rs t)
web corners rs d t = (corner_web rs, corner_web_is rs d t)

-- LABELS THAT AGREE

unfoldable pub labelled : Net → List (List ℕ) → List ℕ → Bool
labelled n rs ls = lawful rs && carries rs (kind n) (step n rs) ls

pub labelled_so : (n : Net) (rs : List (List ℕ)) (ls : List ℕ) → labelled n rs ls ≡ true → OfNet n rs (λ w. (pieces : ℕ) × Agreeing w (kind n) (meaning n) ls pieces)
unfolding labelled
labelled_so n rs ls e =
    let a = and_parts (lawful rs) _ e in
    let l = lawful_so rs a.0 in
    (web n rs l.0 l.1, λ w t. (1, carried rs w (kind n) (step n rs) (cells n rs w t) (steps n rs l.0 w t) (meaning n) ls a.1))

-- AND LABELS THAT DO NOT

-- every label passes
unfoldable pub every_label : Net → (ℕ → Bool) → Bool
every_label turns P = P 0 && P 1
every_label corners P = all (λ a b c d. P (number a b c d))

every_label_lem : (n : Net) (P : ℕ → Bool) → every_label n P ≡ true → (x : Label n) → P (meaning n x) ≡ true
unfolding every_label
every_label_lem turns P e Straight = (and_parts (P 0) (P 1) e).0
every_label_lem turns P e Turned = (and_parts (P 0) (P 1) e).1
every_label_lem corners P e x = all_at (λ a b c d. P (number a b c d)) e x.a x.b x.c x.d x.lawful

-- carried round the ring, every label becomes another
unfoldable pub twists : Net → List (List ℕ) → List ℕ → Bool
twists n rs [] = false
twists n rs (h ∷ hs) = ltb (h / 4) (length rs) && every_label n (λ x. changes rs (kind n) (step n rs) (h / 4) x (h / 4) x (h ∷ hs))

twists_so : (n : Net) (rs : List (List ℕ)) → AllDiffer rs → (ring : List ℕ) → twists n rs ring ≡ true → (w : Web) → WebOf n rs w → NoneAgree w (kind n) (meaning n)
unfolding twists
twists_so n rs d [] e w t xs room agree = false≢true e
twists_so n rs d (h ∷ hs) e w t xs room agree =
    let a = and_parts (ltb (h / 4) (length rs)) _ e in
    let l = ltb-true (h / 4) (length rs) a.0 in
    let i = (cells n rs w t).items in
    let x = label_at (meaning n) xs (h / 4) (omega arith) in
    round rs w (kind n) (step n rs) (cells n rs w t) (steps n rs d w t) (map (meaning n) xs) agree (h / 4) (meaning n x.0) x.1 (h ∷ hs) (h / 4) (meaning n x.0) x.1
    (every_label_lem n (λ x. changes rs (kind n) (step n rs) (h / 4) x (h / 4) x (h ∷ hs)) a.1 x.0)

unfoldable pub unlabelled : Net → List (List ℕ) → List ℕ → Bool
unlabelled n rs ring = lawful rs && twists n rs ring

pub unlabelled_so : (n : Net) (rs : List (List ℕ)) (ring : List ℕ) → unlabelled n rs ring ≡ true → OfNet n rs (λ w. NoneAgree w (kind n) (meaning n))
unfolding unlabelled
unlabelled_so n rs ring e =
    let a = and_parts (lawful rs) _ e in
    let l = lawful_so rs a.0 in
    (web n rs l.0 l.1, twists_so n rs l.0 ring a.1)

-- ORIENT

is_turned : Turn → Bool
is_turned Straight = false
is_turned Turned = true

turned_so : (x : Turn) → is_turned x ≡ true → x ≡ Turned
unfolding is_turned
turned_so Straight e = absurd (false≢true e)
turned_so Turned e = refl

turned_to : (x : Turn) → x ≡ Turned → is_turned x ≡ true
unfolding is_turned
turned_to x e = ap is_turned e

-- n of the rows are turned by xs, which agree
unfoldable pub oriented : List (List ℕ) → ℕ → List Turn → Bool
unfolding is_turned
oriented rs n xs = labelled turns rs (map turn_meaning xs) && (leb (length rs) (length xs) && eqb (length (picks (λ t. is_turned (get_or xs t Straight)) (length rs))) n)

no_orient_cause : (p : Plain) (ys : List Turn) (ms : List ℕ) → length p.list ≤ length ys → length p.list ≤ length ms → (xs : List Turn) → length p.list ≤ length xs → TurnsAgree p.list xs → NoCause (OrientCause p ys ms)
no_orient_cause p ys ms l k xs m a _ (few_labels q) = omega arith
no_orient_cause p ys ms l k xs m a _ (few_marks q) = omega arith
no_orient_cause p ys ms l k xs m a _ (none_agree f) = f xs m a

pub oriented_so : (p : Plain) (n : ℕ) (xs : List Turn) → oriented p.list n xs ≡ true → LongEnough p (λ ys ms. NoCause (OrientCause p ys ms)) × Orientation p.list (turned_by xs p.list) n
unfolding oriented
oriented_so p n xs e =
    let rs = p.list in
    let a = and_parts (labelled turns rs (map turn_meaning xs)) _ e in
    let b = and_parts (leb (length rs) (length xs)) _ a.1 in
    let o = labelled_so turns rs (map turn_meaning xs) a.0 in
    let w = o.0.0 in
    let t = o.0.1 in
    let g = o.1 w t in
    let long = leb-true (length rs) (length xs) b.0 in (
      (λ ys ms l k. no_orient_cause p ys ms l k xs long (w, t, g.1.agrees)),
      record {
        labels = xs;
        long = long;
        agreeing = (w, g.0, t, g.1);
        list = refl;
        many = subst (TurnedMany rs xs) (eqb-true _ n b.1)
            (counts_picks (λ t. is_turned (get_or xs t Straight)) (λ t. get_or xs t Straight ≡ Turned) (λ t. turned_so (get_or xs t Straight)) (λ t. turned_to (get_or xs t Straight)) (length rs));
      },
    )

-- no cause comes before 15
none_before : (p : Plain) (ys : List Turn) (ms : List ℕ) → length p.list ≤ length ys → length p.list ≤ length ms → (c : Refusal) → number_of c < 15 → OrientCause p ys ms c → ⊥
none_before p ys ms l k _ q (few_labels m) = omega arith
none_before p ys ms l k _ q (few_marks m) = omega arith
none_before p ys ms l k _ q (none_agree f) = omega arith

pub unoriented_so : (p : Plain) (ring : List ℕ) → unlabelled turns p.list ring ≡ true → LongEnough p (λ ys ms. First (OrientCause p ys ms) NoLabelsAgree) × NoChoice p.list
unfolding unlabelled
unoriented_so p ring e =
    let rs = p.list in
    let a = and_parts (lawful rs) _ e in
    let l = lawful_so rs a.0 in
    let never : (xs : List Turn) → length rs ≤ length xs → TurnsAgree rs xs → ⊥ = λ xs m t.
    let i = t.1.cells.items in twists_so turns rs l.0 ring a.1 t.0 t.1 xs (omega arith) t.2 in (
      (λ ys ms m k. record { applies = none_agree never; none_before = none_before p ys ms m k }),
      (λ xs m o. never xs (omega arith) (opposed_agree rs l.0 l.1 xs o)),
    )
