-- Lists of numbers and of meanings.
use Rattle.std.proofs.Common.{◌≡◌, ℕ, zero, suc, ◌+◌, ◌-◌, ◌/◌, ◌<◌, List, [], ◌∷◌, map, length, get_or, set, sym, ap, ◌∙◌, subst, arith}
use Rattle.std.proofs.lemmas.List.{get_or-map}
use Rattle.std.specs.List.{FoldsTo}
use Rattle.carry.specs.Walks.{weight}

pub read : {M : Type 0} (f : M → ℕ) (xs : List M) (i : ℕ) (v : M) → i < length xs → v ≡ get_or xs i v → get_or (map f xs) i 0 ≡ f v
read f xs i v h e = get_or-map f xs i v 0 h ∙ ap f (sym e)

pub weight_set : (ms : List ℕ) (i v : ℕ) → i < length ms → weight (set ms i v) + (7 - (get_or ms i 0 + 7) / 8) ≡ weight ms + (7 - (v + 7) / 8)
weight_set [] i v h = omega arith
weight_set (m ∷ ms) zero v h = omega arith
weight_set (m ∷ ms) (suc i) v h = let r = weight_set ms i v (omega arith) in omega arith

-- a call that gives v and leaves the closure as it is, at each place
pub filled : {F X : Type 0} (R : F → X → F → Type 0) (f : F) (v : X) → ((x : X) (q : F) → R f x q → (q ≡ f) × (x ≡ v)) → (xs : List X) (last : F) → FoldsTo R f xs last → (i : ℕ) (d : X) → i < length xs → get_or xs i d ≡ v
filled R f v each [] last ran i d h = absurd (omega arith)
filled R f v each (x ∷ xs) last (q, step, ran) zero d h = (each x q step).1
filled R f v each (x ∷ xs) last (q, step, ran) (suc i) d h = filled R f v each xs last (subst (λ (p : _). FoldsTo R p xs last) (each x q step).0 ran) i d (omega arith)
