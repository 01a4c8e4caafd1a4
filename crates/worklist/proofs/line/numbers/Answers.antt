use Rattle.std.proofs.Common.{◌≡◌, ℕ, suc, ◌+◌, ◌-◌, ◌<◌, List, [], ◌∷◌, ◌++◌, length, take, set, sym, ap, ◌∙◌, subst, append_assoc, arith, rules}
use Rattle.std.proofs.lemmas.List.{take_more_set}
use Rattle.worklist.specs.ReaderSteps.{NoNumbers, Numbers}
use Rattle.worklist.proofs.Cuts.{first_none, later_none, later_some}
use Rattle.worklist.proofs.line.numbers.Goals as goal

pub returns-in_err-n : goal.returns-in_err-n
returns-in_err-n g c =
    let left : suc (g.row.N - (c.loop-i.i + 1)) ≡ g.row.N - c.loop-i.i = omega (arith, c.loop-i-test.true) in
    rw c.from_residual.ensures (c.loop-i.invariant.none (subst (λ (k : ℕ). NoNumbers k c.loop-i.rest.now) left (first_none _ _ c.in_err-n.ensures)))

pub loop-i-preserved : goal.loop-i-preserved
loop-i-preserved g c =
    let inv = c.loop-i.invariant in
    let xs = c.loop-i.found in
    let i = c.loop-i.i in
    let n = c.in_ok-n.n in
    let leads = c.in_ok-n.ensures in
    let left : suc (g.row.N - (i + 1)) ≡ g.row.N - i = omega (arith, c.loop-i-test.true) in
    let room : i < length xs = omega (arith, inv.size, c.loop-i-test.true) in
    record {
      size = search rules;
      some = λ ns h.
          let e : take (i + 1) (set xs i n) ++ ns ≡ take i xs ++ (n ∷ ns) = ap (λ (z : List ℕ). z ++ ns) (take_more_set xs i n room) ∙ append_assoc (take i xs) (n ∷ []) ns in
          subst (Numbers c.args.s.now) (sym e) (inv.some (n ∷ ns) (later_some _ _ _ ns leads h));
      none = λ h. inv.none (subst (λ (k : ℕ). NoNumbers k c.loop-i.rest.now) left (later_none _ _ _ _ leads h));
    }
