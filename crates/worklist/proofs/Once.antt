-- A text is read in one way: as one list of orders, or as turned down for one reason at one line. Assumes nothing.
use Rattle.std.proofs.Common.{◌≡◌, ℕ, suc, ◌+◌, ◌<◌, List, [], ◌∷◌, ◌++◌, length, sym, refl, ap, ◌∙◌, subst, arith}
use Rattle.refusal.specs.declared.Refusal.{Refusal}
use Rattle.refusal.specs.declared.Refusal.TheVariants.{LineMalformed, WronglyClosed}
use Rattle.worklist.specs.declared.order.Order.{Order}
use Rattle.worklist.specs.declared.order.Order.TheVariants.{Close}
use Rattle.worklist.specs.Written.{written}
use Rattle.worklist.specs.Lists.{AllRun, Begins, NoneBegins, Closed, LineFault, TurnedDown, Once}
use Rattle.worklist.specs.Lists.LineFault.{malformed, missing, miscounted, early}
use Rattle.worklist.specs.Lists.TurnedDown.{long, faulty}
use Rattle.worklist.proofs.Ends.{same_first, same_rest}
use Rattle.worklist.proofs.Wholes.{few_orders, not_closed, wrong_stops, not_both, begins_written, begins_at, close_begins}

same_orders : (os ps : List Order) (m n : ℕ) → AllRun os → AllRun ps → m < 65536 → n < 65536
    → written os ++ written (Close m ∷ []) ≡ written ps ++ written (Close n ∷ []) → os ≡ ps
same_orders [] [] m n ro rp hm hn e = refl
same_orders [] (p ∷ ps) m n ro rp hm hn e =
    absurd (not_both (written (Close m ∷ [])) p m _ [] rp.0 (begins_at _ _ p _ e (begins_written p ps (written (Close n ∷ [])) rp.1)) (close_begins m hm))
same_orders (o ∷ os) [] m n ro rp hm hn e =
    absurd (not_both (written (Close n ∷ [])) o n _ [] ro.0 (begins_at _ _ o _ (sym e) (begins_written o os (written (Close m ∷ [])) ro.1)) (close_begins n hn))
same_orders (o ∷ os) (p ∷ ps) m n ro rp hm hn e =
    let s = written (o ∷ os) ++ written (Close m ∷ []) in
    let a = begins_written o os (written (Close m ∷ [])) ro.1 in
    let b : Begins s p (written ps ++ written (Close n ∷ [])) = begins_at s _ p _ e (begins_written p ps (written (Close n ∷ [])) rp.1) in
    let h : o ≡ p = same_first s o p _ _ a b in
    let t = same_orders os ps m n ro.2 rp.2 hm hn (same_rest s o p _ _ a b) in
    cc

-- a work list is of one list of orders
closed_once : (text : List ℕ) (os ps : List Order) → Closed text os → Closed text ps → os ≡ ps
closed_once text os ps c d =
    same_orders os ps (length os) (length ps) c.lines.running d.lines.running (few_orders text os c) (few_orders text ps d) (sym c.lines.whole ∙ d.lines.whole)

is_malformed : (c : Refusal) (k : ℕ) (rest : List ℕ) → 0 < length rest → NoneBegins rest → LineFault k rest c → c ≡ LineMalformed
is_malformed c k rest h none (malformed _ _) = refl
is_malformed c k rest h none (missing z) = absurd (omega (arith, ap length z))
is_malformed c k rest h none (miscounted n more b ne) = absurd (none (Close n) more b)
is_malformed c k rest h none (early n more b l) = absurd (none (Close n) more b)

is_closed : (c : Refusal) (k : ℕ) (rest : List ℕ) → (0 < length rest → NoneBegins rest → ⊥) → LineFault k rest c → c ≡ WronglyClosed
is_closed c k rest some (malformed h none) = absurd (some h none)
is_closed c k rest some (missing z) = refl
is_closed c k rest some (miscounted n more b ne) = refl
is_closed c k rest some (early n more b l) = refl

one_reason : (c d : Refusal) (k j : ℕ) (rest : List ℕ) → LineFault k rest c → LineFault j rest d → c ≡ d
one_reason c d k j rest (malformed h none) v = sym (is_malformed d j rest h none v)
one_reason c d k j rest (missing z) v = sym (is_closed d j rest (λ h none. omega (arith, ap length z)) v)
one_reason c d k j rest (miscounted n more b ne) v = sym (is_closed d j rest (λ h none. none (Close n) more b) v)
one_reason c d k j rest (early n more b l) v = sym (is_closed d j rest (λ h none. none (Close n) more b) v)

same_fault : (c d : Refusal) (i j : ℕ) (os ps : List Order) (rest tail : List ℕ) → AllRun os → AllRun ps
    → written os ++ rest ≡ written ps ++ tail → LineFault i rest c → LineFault j tail d → (c ≡ d) × (length os ≡ length ps)
same_fault c d i j [] [] rest tail ro rp e w v = (one_reason c d i j rest w (subst (λ (z : List ℕ). LineFault j z d) (sym e) v), refl)
same_fault c d i j [] (p ∷ ps) rest tail ro rp e w v =
    absurd (wrong_stops c i rest p _ w (begins_at rest _ p _ e (begins_written p ps tail rp.1)) rp.0)
same_fault c d i j (o ∷ os) [] rest tail ro rp e w v =
    absurd (wrong_stops d j tail o _ v (begins_at tail _ o _ (sym e) (begins_written o os rest ro.1)) ro.0)
same_fault c d i j (o ∷ os) (p ∷ ps) rest tail ro rp e w v =
    let s = written (o ∷ os) ++ rest in
    let t = same_rest s o p _ _ (begins_written o os rest ro.1) (begins_at s _ p _ e (begins_written p ps tail rp.1)) in
    let u = same_fault c d i j os ps rest tail ro.2 rp.2 t w v in
    (u.0, ap suc u.1)

-- a text is turned down for one reason, at one line
fault_once : (text : List ℕ) (c d : Refusal) (k j : ℕ) → TurnedDown text c k → TurnedDown text d j → (c ≡ d) × (k ≡ j)
fault_once text c d k j (long l) (long m) = (refl, refl)
fault_once text c d k j (long l) (faulty _ os rest m re w) = absurd (omega (arith, l, m))
fault_once text c d k j (faulty _ os rest m re w) (long l) = absurd (omega (arith, l, m))
fault_once text c d k j (faulty _ os rest l re w) (faulty _ ps tail m se v) =
    let u = same_fault c d (length os) (length ps) os ps rest tail re.running se.running (sym re.whole ∙ se.whole) w v in
    (u.0, ap (λ (z : ℕ). z + 1) u.1)

pub once : (text : List ℕ) → Once text
once text = record { orders = closed_once text; fault = fault_once text; either = λ os c k d f. not_closed text c k os d f }
