use Rattle.std.proofs.Common.{◌≡◌, ℕ, ◌||◌, eqb, List, length, sym, ap, ◌∙◌, rules, tests}
use Rattle.std.specs.List.{list_all, enumerate_from}
use Rattle.std.proofs.lemmas.Iterator.{YieldsList-from_slice}
use Rattle.std.proofs.lemmas.Iterator.Consumers.{YieldsList-from_enumerate}
use Rattle.std.proofs.lemmas.Iterator.Search.{all_from_yields_List}
use Rattle.std.proofs.Math.Bool.{and-true}
use Rattle.rules.specs.Tests.{on}
use Rattle.ground.specs.Searches.{within}
use Rattle.ground.proofs.Shared.{four_of}
use Rattle.ground.proofs.search.lies_on.Goals as goal

all_four : (x : List ℕ) (i : ℕ) (y : List ℕ) (j : ℕ) → length x ≡ 4 → list_all (λ (p : ℕ × ℕ). eqb i p.0 || on y j p.1) (enumerate_from 0 x) ≡ within x i y j
all_four x i y j e =
    ap (λ (z : List ℕ). list_all (λ (p : ℕ × ℕ). eqb i p.0 || on y j p.1) (enumerate_from 0 z)) (sym (four_of x 0 e))
    ∙ simp and-true

pub returns : goal.returns
returns c =
    let e : length c.args.x ≡ 4 = search rules in
    all_from_yields_List (λ (p : ℕ × ℕ). eqb c.args.i p.0 || on c.args.y c.args.j p.1) _ _ _ c.all.ensures.ran (YieldsList-from_enumerate (YieldsList-from_slice c.args.x cc) cc) (λ p b q k. search (rules, tests))
    ∙ all_four c.args.x c.args.i c.args.y c.args.j e
