-- The stored joins are what the rows say.
use Rattle.std.proofs.Common.{◌≡◌, ℕ, ◌*◌, ◌/◌, ◌%◌, ◌<◌, ◌≤◌, List, [], length, get_or, Some, None, sym, ◌∙◌, arith}
use Rattle.ground.specs.declared.cell.Cell.{Cell}
use Rattle.rules.specs.Joins.{Half, Joined, OnSkin}
use Rattle.rules.specs.Tests.{on_face}
use Rattle.rules.proofs.Corners.{triangle_to, triangle_from}
use Rattle.ground.specs.Records.{rows, join_at}
use Rattle.ground.specs.Searches.{Lawful}
use Rattle.rules.proofs.Exact.{Exact}
pub use Rattle.rules.proofs.Opposites.{joined_sym}
use Rattle.ground.proofs.Records.{length_rows}
use Rattle.ground.proofs.Turned.{exact_of}
use Rattle.rules.proofs.Options.{some_eq}

module _ (cs : List Cell) (n : ℕ) (room : n ≤ length cs) (law : Lawful cs n) where
  len : length (rows cs n) ≡ n
  len = length_rows cs n room

  exact : Exact (on_face (rows cs n)) (4 * n) (join_at cs)
  exact = exact_of (on_face (rows cs n)) (4 * n) (join_at cs) law.near law.other law.same law.whole

  pub half_in : (h : ℕ) → Half (rows cs n) h → h < 4 * n
  half_in h l = omega (arith, len)

  pub in_half : (h : ℕ) → h < 4 * n → Half (rows cs n) h
  in_half h l = omega (arith, len)

  pub joined_to : (h g : ℕ) → Joined (rows cs n) h g → join_at cs h ≡ Some g
  joined_to h g j =
      exact.whole h g (half_in h j.half) (half_in g j.there) (λ e. j.other (sym e))
      (triangle_to (get_or (rows cs n) (h / 4) []) (get_or (rows cs n) (g / 4) []) (h % 4) (g % 4) (omega arith) (omega arith) j.same)

  pub joined_from : (h g : ℕ) → h < 4 * n → join_at cs h ≡ Some g → Joined (rows cs n) h g
  joined_from h g l p = record {
    half = in_half h l;
    there = in_half g (exact.near h g l p);
    other = λ e. exact.other h g l p (sym e);
    same = triangle_from (get_or (rows cs n) (h / 4) []) (get_or (rows cs n) (g / 4) []) (h % 4) (g % 4) (omega arith) (omega arith) (exact.same h g l p);
  }

  pub joined_one : (h g k : ℕ) → Joined (rows cs n) h g → Joined (rows cs n) h k → g ≡ k
  joined_one h g k p q = some_eq g k (sym (joined_to h g p) ∙ joined_to h k q)

  pub skin_from : (h : ℕ) → h < 4 * n → join_at cs h ≡ None → OnSkin (rows cs n) h
  skin_from h l p = (in_half h l, λ g j. let q = joined_to h g j in let z : ◌≡◌ {A = ℕ} 0 1 = cc in omega arith)
