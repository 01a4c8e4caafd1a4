use Rattle.std.proofs.Common.{◌≡◌, ℕ, ◌<◌, ◌∙◌, length, Some, None, Option, MatchOption, refl, sym, subst, arith, rules, zero-add}
use Rattle.std.proofs.lemmas.Iterator.{first_from_find, YieldsList-from_range}
use Rattle.std.proofs.lemmas.List.FromFn.{length-range_with_len, get_or-range_with_len}
use Rattle.std.specs.List.{range_with_len, AllWithin, HoldsAt}
use Rattle.rules.proofs.CornerNets.{distinct}
use Rattle.mates.specs.Edges.{Free}
use Rattle.mates.proofs.RowEdges.{across_free, free_last}
use Rattle.mates.proofs.edge.across.Goals as goal

-- what `find` tells of the corners 0 to 3
abbrev Finds : (ℕ → Type 0) → Option ℕ → Type 0
Finds F o = MatchOption o (AllWithin (λ k. F k → ⊥) (range_with_len 0 4) 0 (length (range_with_len 0 4))) (λ k. F k × (i : ℕ) × (i < length (range_with_len 0 4)) × HoldsAt (λ y. y ≡ k) (range_with_len 0 4) i × AllWithin (λ k. F k → ⊥) (range_with_len 0 4) 0 i)

found : (F : ℕ → Type 0) (k : ℕ) → Finds F (Some k) → (k < 4) × F k
found F k f =
    let l : f.1 < 4 = omega (arith, f.2, length-range_with_len 0 4) in
    let e : f.1 ≡ k = sym (zero-add f.1) ∙ sym (get_or-range_with_len 0 4 f.1 0 l) ∙ f.3 0 in
    (omega arith, f.0)

nowhere : (F : ℕ → Type 0) → Finds F None → (k : ℕ) → k < 4 → F k → ⊥
nowhere F f k l = subst (λ z. F z → ⊥) (get_or-range_with_len 0 4 k 0 l ∙ zero-add k) (f k 0 (omega arith) (omega (arith, length-range_with_len 0 4)))

pub unreachable-requires : goal.unreachable-requires
unreachable-requires c =
    let x = c.args.row in let i = c.args.i in let u = c.args.edge.from in let v = c.args.edge.to in
    let finds = first_from_find _ _ c.find.result (Free x i u v) (λ k. Free x i u v k → ⊥) c.find.ensures.ran (YieldsList-from_range 0 4 4 refl refl) (λ k q e. search rules) (λ k q e. search rules) in
    let none = nowhere (Free x i u v) (subst (Finds (Free x i u v)) c.in_default.is finds) in
    none 3 (omega arith) (free_last x (distinct x c.requires.differ) i u v c.requires.low c.requires.spans (none 0 (omega arith)) (none 1 (omega arith)) (none 2 (omega arith)))

pub returns : goal.returns
returns c =
    let x = c.args.row in let i = c.args.i in let u = c.args.edge.from in let v = c.args.edge.to in
    let finds = first_from_find _ _ c.find.result (Free x i u v) (λ k. Free x i u v k → ⊥) c.find.ensures.ran (YieldsList-from_range 0 4 4 refl refl) (λ k q e. search rules) (λ k q e. search rules) in
    let k = found (Free x i u v) c.in-Some.k (subst (Finds (Free x i u v)) c.in-Some.is finds) in
    across_free x (distinct x c.requires.differ) i u v c.requires.low c.requires.spans c.in-Some.k k.0 k.1
