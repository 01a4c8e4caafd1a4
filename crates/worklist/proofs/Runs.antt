-- The orders of a list that is checked come one after another. Assumes nothing.
use Rattle.std.proofs.Common.{◌≡◌, ℕ, List, [], ◌∷◌, ◌++◌, length, refl, ap}
use Rattle.worklist.specs.declared.order.Order.{Order}
use Rattle.worklist.specs.declared.order.Order.TheVariants.{Close}
use Rattle.worklist.specs.Written.{written}
use Rattle.worklist.specs.Lists.{Begins, NoneBegins, Closed, ToRun, Next, NoneNext}
use Rattle.worklist.proofs.Ends.{same_first, same_rest}
use Rattle.worklist.proofs.Wholes.{few_orders, begins_at, begins_written, close_begins, not_both}

-- at first all the orders of a work list are to run
pub all_to_run : (text : List ℕ) (os : List Order) → Closed text os → ToRun text os
all_to_run text os c = (length os, few_orders text os c, c.lines)

first_of : (rest : List ℕ) (o : Order) (os : List Order) (l : ToRun rest (o ∷ os)) → Begins rest o (written os ++ written (Close l.0 ∷ []))
first_of rest o os l = begins_at rest _ o _ l.2.whole (begins_written o os (written (Close l.0 ∷ [])) l.2.running.1)

pub none_left : (rest : List ℕ) → NoneNext rest → (os : List Order) → ToRun rest os → os ≡ []
none_left rest h [] l = refl
none_left rest h (o ∷ os) l = absurd (h o _ (first_of rest o os l, l.2.running.0))

pub some_left : (rest : List ℕ) (o : Order) (more : List ℕ) → Next rest o more → (os : List Order) → ToRun rest os
    → (x : List Order) × (os ≡ o ∷ x) × ToRun more x
some_left rest o more n [] l =
    absurd (not_both rest o l.0 more [] n.1 n.0 (begins_at rest _ (Close l.0) [] l.2.whole (close_begins l.0 l.1)))
some_left rest o more n (p ∷ ps) l =
    let f = first_of rest p ps l in
    let h : p ≡ o = same_first rest p o _ more f n.0 in
    (ps, ap (λ (z : Order). z ∷ ps) h, (l.0, l.1, record { whole = same_rest rest o p more _ n.0 f; running = l.2.running.2 }))

pub none_closes : (rest : List ℕ) (n : ℕ) (more : List ℕ) → Begins rest (Close n) more → NoneNext rest
none_closes rest n more b o t x = not_both rest o n t more x.1 x.0 b

pub none_begun : (rest : List ℕ) → NoneBegins rest → NoneNext rest
none_begun rest h o t x = h o t x.0
