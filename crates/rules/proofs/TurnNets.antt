-- The turn net of rows: the one that computes is one, and it is the only one. Labels agree over it exactly when turning by them makes all joined triangles read opposite ways.
use Rattle.std.proofs.Common.{◌≡◌, ℕ, zero, suc, ◌+◌, ◌*◌, ◌<◌, ◌≤◌, Bool, true, false, cond, ◌⊎◌, List, map, length, get_or, Some, None, Option, sym, refl, ap, ◌∙◌, subst, inl, inr, ⊎_elim, arith}
use Rattle.std.proofs.lemmas.Bool.{cases_Bool, both_ways, cond-true, cond-false}
use Rattle.carry.specs.declared.net.Place.{Place}
use Rattle.carry.specs.declared.turn.Turn.{Turn}
use Rattle.carry.specs.declared.turn.Turn.TheVariants.{Straight, Turned}
use Rattle.carry.specs.Kinds.{Kind}
use Rattle.carry.specs.Turns.{turn_meaning, turn_kind}
use Rattle.carry.specs.Webs.{Web}
use Rattle.carry.specs.Agreement.{Reach, Agrees, Grounded}
use Rattle.carry.specs.Agreement.Reach.{here, on}
use Rattle.carry.specs.Counting.{Counts}
use Rattle.carry.specs.Counting.Counts.{none, one, skip}
use Rattle.rules.specs.Readings.{reads, Alike}
use Rattle.rules.specs.Joins.{NoThree}
use Rattle.rules.specs.Nets.{JoinedSides, TurnWeb, TurnsAgree, TurnsMeant, turned_by, AllOpposed, AllDiffer, OneOrientation}
use Rattle.rules.specs.Tests.{Differ}
use Rattle.rules.specs.NetTests.{rotation, read_at, alike, opposite, partner, stepped, cell_joins, cell_steps, turning, turn_web}
use Rattle.rules.proofs.Labelled.{turned_same}
use Rattle.rules.proofs.Opposing.{bit_of, opposite_after, agrees_opposed, opposed_agrees}
use Rattle.rules.proofs.Opposites.{rows_exact, joined_opposite, opposite_joined, cell_web_is}
use Rattle.rules.proofs.Rotated.{alike_so, alike_to}
use Rattle.rules.proofs.Webbed.{steps_in, placed_none}

-- READ ALIKE, BY THE TEST

pub alike_true : (rs : List (List ℕ)) (h g : ℕ) → Alike (reads rs h) (reads rs g) → alike rs h g ≡ true
unfolding alike
alike_true rs h g = alike_to (reads rs h) (reads rs g)

pub alike_false : (rs : List (List ℕ)) (h g : ℕ) → (Alike (reads rs h) (reads rs g) → ⊥) → alike rs h g ≡ false
unfolding alike
alike_false rs h g n = ⊎_elim (λ t. absurd (n (alike_so (reads rs h) (reads rs g) t))) (λ f. f) (cases_Bool (alike rs h g))

pub alike_cases : (rs : List (List ℕ)) (h g : ℕ) → Alike (reads rs h) (reads rs g) ⊎ (Alike (reads rs h) (reads rs g) → ⊥)
unfolding alike
alike_cases rs h g = ⊎_elim (λ t. inl (alike_so (reads rs h) (reads rs g) t)) (λ f. inr (λ a. both_ways (alike rs h g) f (alike_to (reads rs h) (reads rs g) a))) (cases_Bool (alike rs h g))

-- the test of what was read
pub alike_read : (rs : List (List ℕ)) (h g : ℕ) (a b : List ℕ) (x : Bool) → a ≡ read_at rs h → b ≡ read_at rs g → x ≡ rotation a b → alike rs h g ≡ x
unfolding alike
alike_read rs h g a b x p q e = ap (λ (z : List ℕ). rotation z (read_at rs g)) (sym p) ∙ ap (rotation a) (sym q) ∙ sym e

-- THE NET THAT COMPUTES

still_none : (rs : List (List ℕ)) (i s : ℕ) → cell_joins rs i s ≡ None → cell_steps rs 0 (turning rs) i s ≡ 0
unfolding cell_joins cell_steps
still_none rs i s e = ap (stepped 0 (turning rs) (4 * i + s)) (placed_none (partner rs i s) e)

module _ (rs : List (List ℕ)) (n : NoThree rs) where
  step_at_lem : (i s : ℕ) (p : Place) → JoinedSides rs i s p → cell_steps rs 0 (turning rs) i s ≡ cond (alike rs (4 * i + s) (4 * p.item + p.side)) 1 0
  step_at_lem i s p j = steps_in rs 0 (turning rs) i s j.item j.side ∙ ap (stepped 0 (turning rs) (4 * i + s)) (joined_opposite rs n (4 * i + s) (4 * p.item + p.side) j.joined)

  pub turn_web_is : TurnWeb rs (turn_web rs)
  turn_web_is = record {
    cells = cell_web_is rs n 0 (turning rs);
    alike = λ i s p j a. step_at_lem i s p j ∙ cond-true (alike rs (4 * i + s) (4 * p.item + p.side)) 1 0 (alike_true rs (4 * i + s) (4 * p.item + p.side) a);
    unlike = λ i s p j a. step_at_lem i s p j ∙ cond-false (alike rs (4 * i + s) (4 * p.item + p.side)) 1 0 (alike_false rs (4 * i + s) (4 * p.item + p.side) a);
    still = still_none rs;
  }

-- THE ONLY ONE

cases_place : (o : Option Place) → (o ≡ None) ⊎ ((p : Place) × (o ≡ Some p))
cases_place None = inl refl
cases_place (Some p) = inr (p, refl)

module _ (rs : List (List ℕ)) (w w' : Web) (t : TurnWeb rs w) (t' : TurnWeb rs w') where
  same_joins : (i s : ℕ) → w.joins i s ≡ w'.joins i s
  same_joins i s =
      ⊎_elim
      (λ e. ⊎_elim
      (λ f. e ∙ sym f)
      (λ q. absurd (let a = (t.cells.joins i s q.0).1 ((t'.cells.joins i s q.0).0 q.1) in let z : ◌≡◌ {A = ℕ} 0 1 = cc in omega arith))
      (cases_place (w'.joins i s)))
      (λ q. q.1 ∙ sym ((t'.cells.joins i s q.0).1 ((t.cells.joins i s q.0).0 q.1)))
      (cases_place (w.joins i s))

  same_steps : (i s : ℕ) → w.steps i s ≡ w'.steps i s
  same_steps i s =
      ⊎_elim
      (λ e. t.still i s e ∙ sym (t'.still i s (sym (same_joins i s) ∙ e)))
      (λ q. let j = (t.cells.joins i s q.0).0 q.1 in
      ⊎_elim
      (λ a. t.alike i s q.0 j a ∙ sym (t'.alike i s q.0 j a))
      (λ a. t.unlike i s q.0 j a ∙ sym (t'.unlike i s q.0 j a))
      (alike_cases rs (4 * i + s) (4 * q.0.item + q.0.side)))
      (cases_place (w.joins i s))

  same_items : w.items ≡ w'.items
  same_items = t.cells.items ∙ sym t'.cells.items

  pub agrees_as : (k : Kind) (ls : List ℕ) → Agrees w k ls → Agrees w' k ls
  agrees_as k ls a i s p e = a i s p (same_joins i s ∙ e) ∙ ap (λ (x : ℕ). k.combined (get_or ls i 0) x) (same_steps i s)

  reach_as : (i j : ℕ) → Reach w i j → Reach w' i j
  reach_as i _ here = here
  reach_as i _ (on {j = j} {s = s} r e) = on (reach_as i j r) (sym (same_joins j s) ∙ e)

  pub grounded_as : (k : Kind) (ls : List ℕ) → Grounded w k ls → Grounded w' k ls
  grounded_as k ls g i f = g i (subst (λ (m : ℕ). i < m) (sym same_items) f.0, λ j r. f.1 j (reach_as i j r))

-- THE THEOREM

pub differ_of : (rs : List (List ℕ)) → AllDiffer rs → Differ rs
differ_of rs d t i j p = d t p.0 (i, j, p.1, p.2, p.3)

pub all_differ : (rs : List (List ℕ)) → Differ rs → AllDiffer rs
all_differ rs d t l r = d t r.0 r.1 (l, r.2, r.3, r.4)

module _ (rs : List (List ℕ)) (d : AllDiffer rs) (n : NoThree rs) where
  pub agree_opposed : (xs : List Turn) → TurnsAgree rs xs → AllOpposed (turned_by xs rs)
  agree_opposed xs a h g j al =
      both_ways (alike (turned_by xs rs) h g)
      (agrees_opposed rs (opposite rs) (rows_exact rs n) (differ_of rs d) xs (agrees_as rs a.0 (turn_web rs) a.1 (turn_web_is rs n) turn_kind (map turn_meaning xs) a.2) h g j.half
      (opposite_after rs (opposite rs) (rows_exact rs n) (differ_of rs d) xs h g j))
      (alike_true (turned_by xs rs) h g al)

  pub opposed_agree : (xs : List Turn) → AllOpposed (turned_by xs rs) → TurnsAgree rs xs
  opposed_agree xs o = (
    turn_web rs,
    turn_web_is rs n,
    opposed_agrees rs (opposite rs) (rows_exact rs n) (differ_of rs d) xs (λ h g l e. alike_false (turned_by xs rs) h g (o h g (opposite_joined (turned_by xs rs) h g l e))),
  )

  pub turns_meant : TurnsMeant rs
  turns_meant xs = (agree_opposed xs, opposed_agree xs)

-- AT MOST ONE ORIENTATION

same_turn : (x y : Turn) → turn_meaning x ≡ turn_meaning y → x ≡ y
same_turn Straight Straight e = refl
same_turn Straight Turned e = absurd (omega arith)
same_turn Turned Straight e = absurd (omega arith)
same_turn Turned Turned e = refl

counts_same : (P Q : ℕ → Type 0) (n c d : ℕ) → ((i : ℕ) → i < n → P i → Q i) → ((i : ℕ) → i < n → Q i → P i) → Counts P n c → Counts Q n d → c ≡ d
counts_same P Q zero zero zero f g none none = refl
counts_same P Q zero zero (suc d) f g _ x = elim x [ ]
counts_same P Q zero (suc c) d f g x _ = elim x [ ]
counts_same P Q (suc n) (suc c) (suc d) f g (one a p) (one b q) = ap suc (counts_same P Q n c d (λ i l. f i (omega arith)) (λ i l. g i (omega arith)) a b)
counts_same P Q (suc n) (suc c) d f g (one a p) (skip b q) = absurd (q (f n (omega arith) p))
counts_same P Q (suc n) c (suc d) f g (skip a p) (one b q) = absurd (p (g n (omega arith) q))
counts_same P Q (suc n) c d f g (skip a p) (skip b q) = counts_same P Q n c d (λ i l. f i (omega arith)) (λ i l. g i (omega arith)) a b

pub one_orientation : (rs : List (List ℕ)) → OneOrientation rs
one_orientation rs a b m n o q =
    let xs = o.labels in
    let ys = q.labels in
    let u = o.agreeing in
    let v = q.agreeing in
    let long : v.0.items ≤ length xs = subst (λ (k : ℕ). k ≤ length xs) (sym v.2.cells.items) o.long in
    let same : (i : ℕ) → i < length rs → get_or xs i Straight ≡ get_or ys i Straight = λ i l.
    same_turn (get_or xs i Straight) (get_or ys i Straight)
    (sym (bit_of xs i)
    ∙ v.3.only xs long (agrees_as rs u.0 v.0 u.2 v.2 turn_kind (map turn_meaning xs) u.3.agrees) (grounded_as rs u.0 v.0 u.2 v.2 turn_kind (map turn_meaning xs) u.3.grounded) i (subst (λ (k : ℕ). i < k) (sym v.2.cells.items) l)
    ∙ bit_of ys i) in (
      o.list ∙ turned_same xs ys rs o.long q.long same ∙ sym q.list,
      counts_same (λ t. get_or xs t Straight ≡ Turned) (λ t. get_or ys t Straight ≡ Turned) (length rs) m n (λ i l p. sym (same i l) ∙ p) (λ i l p. same i l ∙ p) o.many q.many,
    )
