-- No more rows are turned than there are.
use Rattle.std.proofs.Common.{ℕ, ◌≤◌, length, take, arith}
use lib.ListN.{length-map}
use Rattle.std.proofs.lemmas.List.{length-take-le}
use Rattle.carry.specs.Counting.{Counts}
use Rattle.carry.specs.Counting.Counts.{none, one, skip}
use Rattle.ground.specs.declared.stage.Open.{Open}
use Rattle.ground.specs.Grounds.{plain}
use Rattle.ground.specs.Records.{corners_of}

pub few : (P : ℕ → Type 0) (n c : ℕ) → Counts P n c → c ≤ n
few P _ _ none = omega arith
few P _ _ (one w p) = let h = few P _ _ w in omega arith
few P _ _ (skip w p) = let h = few P _ _ w in omega arith

pub few_rows : (g : Open) → length (plain g).list ≤ 1024
few_rows g =
    let a = length-map (take g.cells.count g.cells.records.now) corners_of in
    let b = length-take-le g.cells.count g.cells.records.now g.cells.standing.room in
    let d = g.cells.few in
    let e = g.cells.standing.room in
    omega arith
