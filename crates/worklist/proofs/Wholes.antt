-- What a text is read as, line by line. Assumes nothing.
use Rattle.std.proofs.Common.{◌≡◌, ℕ, ◌+◌, ◌*◌, ◌<◌, ◌≤◌, List, [], ◌∷◌, ◌++◌, length, sym, refl, ap, ◌∙◌, subst, append_assoc, arith, length-append}
use Rattle.refusal.specs.declared.Refusal.{Refusal}
use Rattle.worklist.specs.declared.order.Order.{Order}
use Rattle.worklist.specs.declared.order.Order.TheVariants.{Close}
use Rattle.worklist.specs.Written.{Small, numbers_of, line_of, written}
use Rattle.worklist.specs.Lists.{Begins, Runs, AllRun, Reaches, Closed, LineFault, TurnedDown}
use Rattle.worklist.specs.Lists.LineFault.{malformed, missing, miscounted, early}
use Rattle.worklist.specs.Lists.TurnedDown.{long, faulty}
use Rattle.worklist.proofs.Ends.{same_first, same_rest}

-- a line has two bytes or more
pub begins_shorter : (rest : List ℕ) (o : Order) (more : List ℕ) → Begins rest o more → 2 + length more ≤ length rest
begins_shorter rest o more b = omega (arith, ap length b.whole, length-append (line_of o) (10 ∷ more))

two_each : (os : List Order) → 2 * length os ≤ length (written os)
two_each [] = omega arith
two_each (o ∷ os) = omega (arith, two_each os, length-append (line_of o) (10 ∷ written os))

pub few_orders : (text : List ℕ) (os : List Order) → Closed text os → length os < 65536
few_orders text os c =
    omega (arith, c.short, two_each os, ap length c.lines.whole, length-append (written os) (written (Close (length os) ∷ [])))

written_more : (os : List Order) (o : Order) (rest : List ℕ) → written (os ++ (o ∷ [])) ++ rest ≡ written os ++ (line_of o ++ (10 ∷ rest))
written_more [] o rest = append_assoc (line_of o) (10 ∷ []) rest
written_more (p ∷ os) o rest =
    append_assoc (line_of p) (10 ∷ written (os ++ (o ∷ []))) rest
    ∙ ap (λ (z : List ℕ). line_of p ++ (10 ∷ z)) (written_more os o rest)
    ∙ sym (append_assoc (line_of p) (10 ∷ written os) (line_of o ++ (10 ∷ rest)))

running_more : (os : List Order) (o : Order) → AllRun os → Runs o → Small (numbers_of o) → AllRun (os ++ (o ∷ []))
running_more [] o r e s = (e, s, tt)
running_more (p ∷ os) o r e s = (r.0, r.1, running_more os o r.2 e s)

-- one more line is right
pub reaches_more : (text : List ℕ) (os : List Order) (rest : List ℕ) (o : Order) (more : List ℕ) → Reaches text os rest → Begins rest o more → Runs o → Reaches text (os ++ (o ∷ [])) more
reaches_more text os rest o more r b e = record {
  whole = r.whole ∙ ap (λ (z : List ℕ). written os ++ z) b.whole ∙ sym (written_more os o more);
  running = running_more os o r.running e b.small;
}

pub begins_as : (s : List ℕ) (o p : Order) (r : List ℕ) → o ≡ p → Begins s o r → Begins s p r
begins_as s o p r e b = subst (λ (z : Order). Begins s z r) e b

pub begins_at : (s t : List ℕ) (o : Order) (r : List ℕ) → s ≡ t → Begins t o r → Begins s o r
begins_at s t o r e b = record { whole = e ∙ b.whole; small = b.small }

pub begins_written : (o : Order) (os : List Order) (rest : List ℕ) → Small (numbers_of o) → Begins (written (o ∷ os) ++ rest) o (written os ++ rest)
begins_written o os rest sm = record { whole = append_assoc (line_of o) (10 ∷ written os) rest; small = sm }

pub close_begins : (m : ℕ) → m < 65536 → Begins (written (Close m ∷ [])) (Close m) []
close_begins m h = record { whole = refl; small = (h, tt) }

-- no line both closes the list and is to run
pub not_both : (s : List ℕ) (o : Order) (n : ℕ) (r t : List ℕ) → Runs o → Begins s o r → Begins s (Close n) t → ⊥
not_both s o n r t e a b = e n (same_first s o (Close n) r t a b)

-- a line that is wrong is no order to run
pub wrong_stops : (c : Refusal) (k : ℕ) (rest : List ℕ) (p : Order) (t : List ℕ) → LineFault k rest c → Begins rest p t → Runs p → ⊥
wrong_stops c k rest p t (malformed h none) b e = none p t b
wrong_stops c k rest p t (missing z) b e = omega (arith, begins_shorter rest p t b, ap length z)
wrong_stops c k rest p t (miscounted n more q ne) b e = not_both rest p n t more e b q
wrong_stops c k rest p t (early n more q l) b e = not_both rest p n t more e b q

-- and does not close the list as it should
wrong_end : (c : Refusal) (k m : ℕ) (rest : List ℕ) → LineFault k rest c → Begins rest (Close m) [] → m ≡ k → ⊥
wrong_end c k m rest (malformed h none) b e = none (Close m) [] b
wrong_end c k m rest (missing z) b e = omega (arith, begins_shorter rest (Close m) [] b, ap length z)
wrong_end c k m rest (miscounted n more q ne) b e =
    let s : Close n ≡ Close m = same_first rest (Close n) (Close m) more [] q b in
    ne (cc)
wrong_end c k m rest (early n more q l) b e = omega (arith, ap length (same_rest rest (Close n) (Close m) more [] q b))

-- so it stands in no list that is closed
clash : (c : Refusal) (k : ℕ) (os ps : List Order) (rest : List ℕ) (m : ℕ) → AllRun os → AllRun ps → m < 65536 → m ≡ k + length ps
    → written os ++ rest ≡ written ps ++ written (Close m ∷ []) → LineFault (k + length os) rest c → ⊥
clash c k [] [] rest m ro rp h e q w = wrong_end c (k + 0) m rest w (begins_at rest _ (Close m) [] q (close_begins m h)) e
clash c k [] (p ∷ ps) rest m ro rp h e q w =
    wrong_stops c (k + 0) rest p _ w (begins_at rest _ p _ q (begins_written p ps (written (Close m ∷ [])) rp.1)) rp.0
clash c k (o ∷ os) [] rest m ro rp h e q w =
    not_both (written (o ∷ os) ++ rest) o m _ [] ro.0 (begins_written o os rest ro.1) (begins_at _ _ (Close m) [] q (close_begins m h))
clash c k (o ∷ os) (p ∷ ps) rest m ro rp h e q w =
    let b = same_rest (written (o ∷ os) ++ rest) o p _ _ (begins_written o os rest ro.1) (begins_at _ _ p _ q (begins_written p ps (written (Close m ∷ [])) rp.1)) in
    let n : k + length (o ∷ os) ≡ (k + 1) + length os = omega arith in
    clash c (k + 1) os ps rest m ro.2 rp.2 h (omega arith) b (subst (λ (z : ℕ). LineFault z rest c) n w)

-- a text that is turned down is no work list
pub not_closed : (text : List ℕ) (c : Refusal) (k : ℕ) (os : List Order) → Closed text os → TurnedDown text c k → ⊥
not_closed text c k ps d (long l) = omega (arith, l, d.short)
not_closed text c k ps d (faulty _ os rest l re w) =
    let z : length os ≡ 0 + length os = omega arith in
    clash c 0 os ps rest (length ps) re.running d.lines.running (few_orders text ps d) (omega arith)
    (sym re.whole ∙ d.lines.whole)
    (subst (λ (n : ℕ). LineFault n rest c) z w)

pub turned_down : (text : List ℕ) (c : Refusal) (os : List Order) (rest : List ℕ) (k : ℕ) → length text ≤ 65536 → Reaches text os rest → k ≡ length os → LineFault k rest c → TurnedDown text c (k + 1)
turned_down text c os rest k le re e w =
    subst (λ (n : ℕ). TurnedDown text c (n + 1)) (sym e) (faulty c os rest le re (subst (λ (n : ℕ). LineFault n rest c) e w))

pub closed_at : (text : List ℕ) (os : List Order) (rest : List ℕ) (n : ℕ) → length text ≤ 65536 → Reaches text os rest → Begins rest (Close n) [] → n ≡ length os → Closed text os
closed_at text os rest n le re b e = record {
  short = le;
  lines = record {
    whole = re.whole ∙ ap (λ (t : List ℕ). written os ++ t) (b.whole ∙ ap (λ (m : ℕ). written (Close m ∷ [])) e);
    running = re.running;
  };
}
