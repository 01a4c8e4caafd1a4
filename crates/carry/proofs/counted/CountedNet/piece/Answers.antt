use Rattle.std.proofs.Common.{◌≡◌, ℕ, ◌<◌, List, map, drop, set, sym, refl, ap, ◌∙◌, subst, arith}
use lib.ListN.{length-map}
use lib.Seq.{map-set}
use Rattle.std.proofs.lemmas.List.{drop-set-lt}
use Rattle.carry.specs.Walks.{Grown}
use Rattle.carry.proofs.Moves.{begin, begin_grown}
use Rattle.carry.proofs.counted.CountedNet.piece.Goals as goal

pub loop-next-init : goal.loop-next-init
loop-next-init g c =
    let s = c.args.self.now.sound in
    (begin s c.args.marks.now c.args.root c.requires.rests (omega arith) c.requires.root.1, (λ ms₀ ls₀ gr. gr), refl, refl)

pub loop-next-preserved : goal.loop-next-preserved
loop-next-preserved g c =
    let t = c.in-Some.ensures.advanced in
    (t.goes, (λ ms₀ ls₀ gr. t.grows c.args.root ms₀ ls₀ (c.loop-next.invariant.1 ms₀ ls₀ gr)), subst (λ (n : ℕ). drop n c.advance.new.marks ≡ drop n c.loop-next.marks) (sym c.args.self.now.items) t.rest ∙ c.loop-next.invariant.2, c.in-Some.ensures.rest ∙ c.loop-next.invariant.3)

pub returns : goal.returns
returns g c =
    let s = c.args.self.now.sound in
    let w = g.N.Net.web c.args.self.now.net.now in
    let f = g.N.Label.Label.meaning in
    let k = g.N.Label.Label.kind in
    let xs = c.args.labels.now in
    let ms = c.args.marks.now in
    let root = c.args.root in
    let t = c.in_default.ensures.advanced in
    let lt : root < w.items = omega arith in
    let set-ls : set (map f xs) root k.neutral ≡ map f (set xs root c.neutral.result) = sym (map-set f xs root c.neutral.result ∙ ap (set (map f xs) root) c.neutral.ensures) in
    let start : Grown w k root ms (map f xs) (set ms root 5) (map f (set xs root c.neutral.result)) =
    subst (λ (l : List ℕ). Grown w k root ms (map f xs) (set ms root 5) l) set-ls (begin_grown s ms (map f xs) root c.requires.rests lt (omega (arith, length-map xs f)) c.requires.root.1) in
    record {
      rests = t.goes;
      grown = t.grows root ms (map f xs) (c.loop-next.invariant.1 ms (map f xs) start);
      past = subst (λ (n : ℕ). drop n c.advance.new.marks ≡ drop n c.loop-next.marks) (sym c.args.self.now.items) t.rest ∙ c.loop-next.invariant.2 ∙ drop-set-lt _ ms root 5 c.requires.root.0;
      rest = c.in_default.ensures.rest ∙ c.loop-next.invariant.3 ∙ drop-set-lt _ xs root _ c.requires.root.0;
    }
