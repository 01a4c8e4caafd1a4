-- The rule by which a half-face stands for an edge is an order, and the same for whatever tells that a half-face is open.
use Rattle.std.proofs.Common.{ℕ, ◌≤◌, ◌↔◌, arith}
use Rattle.indexes.specs.Rule.{Rather}

pub rather_itself : (X : Type 0) (x : ℕ) → Rather X X x x
rather_itself X x = record { sort = λ a. a; lower = λ f. omega arith }

pub rather_chain : (X Y Z : Type 0) (x y z : ℕ) → Rather X Y x y → Rather Y Z y z → Rather X Z x z
rather_chain X Y Z x y z a b = record {
  sort = λ c. a.sort (b.sort c);
  lower = λ f. let p : x ≤ y = a.lower (λ u. b.sort (f u)) in let q : y ≤ z = b.lower (λ v. f (a.sort v)) in omega arith;
}

pub rather_as : (X Y A B : Type 0) (x y : ℕ) → X ↔ A → Y ↔ B → Rather X Y x y → Rather A B x y
rather_as X Y A B x y f g r = record {
  sort = λ b. f.0 (r.sort (g.1 b));
  lower = λ k. r.lower (λ u. g.1 (k (f.0 u)));
}
