use Rattle.std.proofs.Common.{◌≡◌, ℕ, ◌+◌, ◌-◌, ◌/◌, ◌<◌, List, length, get_or, Ok, Err, Ordering, sym, ap, ◌∙◌, subst, arith}
use Rattle.std.proofs.lemmas.List.{get_or_default}
use Rattle.index.specs.declared.entry.Entry.{Entry}
use Rattle.index.specs.Entries.{Rising}
use Rattle.index.specs.Search.{Sought}
use Rattle.index.proofs.Places.{less_up_to, greater_from}
use Rattle.index.proofs.container.Index.search.Goals as goal

-- how the entry at m stands to k, whatever the default
at_place : {K : Type 0} (order : K → K → Ordering) (k : K) (es : List (Entry K)) (m : ℕ) (e : Entry K) (o : Ordering)
    → m < length es → o ≡ order (get_or es m e).key k → (d : Entry K) → order (get_or es m d).key k ≡ o
at_place order k es m e o h q d = ap (λ (x : Entry _). order x.key k) (get_or_default es m d e h) ∙ sym q

pub loop-low-init : goal.loop-low-init
loop-low-init g c = (omega arith, omega arith, λ i d l. absurd (omega (arith, l)), λ i d l t. absurd (omega (arith, l, t)))

pub loop-low-preserved-in-Less : goal.loop-low-preserved-in-Less
loop-low-preserved-in-Less g c =
    let o = g.K.Key.order in
    let es = c.entries-entries.result.now in
    let m = c.loop-low.low + (c.loop-low.high - c.loop-low.low) / 2 in
    let h : m < length es = omega (arith, c.loop-low.invariant.0, c.loop-low.invariant.1, c.loop-low-test.true) in
    let rising = subst (Rising o) (sym c.entries-entries.ensures) c.args.self.now.rising in (
      omega (arith, c.loop-low-test.true),
      c.loop-low.invariant.1,
      less_up_to g.met.K.Key.total c.args.key es m rising h (at_place o c.args.key es m _ _ h c.in-Less.ensures),
      c.loop-low.invariant.3,
    )

pub returns-in-Equal : goal.returns-in-Equal
returns-in-Equal g c =
    let o = g.K.Key.order in
    let es = c.entries-entries.result.now in
    let m = c.loop-low.low + (c.loop-low.high - c.loop-low.low) / 2 in
    let h : m < length es = omega (arith, c.loop-low.invariant.0, c.loop-low.invariant.1, c.loop-low-test.true) in
    subst (λ (z : List (Entry _)). Sought o c.args.key z (Ok m)) c.entries-entries.ensures (h, at_place o c.args.key es m _ _ h c.in-Equal.ensures)

pub loop-low-preserved : goal.loop-low-preserved
loop-low-preserved g c =
    let o = g.K.Key.order in
    let es = c.entries-entries.result.now in
    let m = c.loop-low.low + (c.loop-low.high - c.loop-low.low) / 2 in
    let h : m < length es = omega (arith, c.loop-low.invariant.0, c.loop-low.invariant.1, c.loop-low-test.true) in
    let rising = subst (Rising o) (sym c.entries-entries.ensures) c.args.self.now.rising in (
      omega arith,
      omega (arith, h),
      c.loop-low.invariant.2,
      greater_from g.met.K.Key.total c.args.key es m rising h (at_place o c.args.key es m _ _ h c.in-Greater.ensures),
    )

pub returns : goal.returns
returns g c =
    let o = g.K.Key.order in
    let es = c.entries-entries.result.now in
    let i = c.loop-low.invariant in
    let e : c.loop-low.high ≡ c.loop-low.low = omega (arith, i.0, c.loop-low-test.false) in
    subst (λ (z : List (Entry _)). Sought o c.args.key z (Err c.loop-low.low)) c.entries-entries.ensures
    (omega (arith, i.0, i.1), i.2, λ j d l t. i.3 j d (omega (arith, e, l)) t)
