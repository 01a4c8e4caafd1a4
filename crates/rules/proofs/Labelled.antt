-- Rows turned by their labels, one after another.
use Rattle.std.proofs.Common.{◌≡◌, ℕ, zero, suc, ◌<◌, ◌≤◌, List, [], ◌∷◌, length, get_or, take, set, sym, refl, ap, ◌∙◌, arith}
use Rattle.std.proofs.lemmas.List.{set-get_or}
use Rattle.carry.specs.declared.turn.Turn.{Turn}
use Rattle.carry.specs.declared.turn.Turn.TheVariants.{Straight, Turned}
use Rattle.rules.specs.Rows.{turned_row}
use Rattle.rules.specs.Nets.{turned_if, turned_by}

pub turned_none : (xs : List Turn) → turned_by xs [] ≡ []
turned_none [] = refl
turned_none (x ∷ xs) = refl

pub length_turned : (xs : List Turn) (rs : List (List ℕ)) → length (turned_by xs rs) ≡ length rs
length_turned [] rs = refl
length_turned (x ∷ xs) [] = refl
length_turned (x ∷ xs) (r ∷ rs) = ap suc (length_turned xs rs)

pub row_at : (xs : List Turn) (rs : List (List ℕ)) (t : ℕ) → t < length rs → get_or (turned_by xs rs) t [] ≡ turned_if (get_or xs t Straight) (get_or rs t [])
row_at [] rs t l = refl
row_at (x ∷ xs) [] t l = absurd (omega arith)
row_at (x ∷ xs) (r ∷ rs) zero l = refl
row_at (x ∷ xs) (r ∷ rs) (suc t) l = row_at xs rs t (omega arith)

-- one more label
pub turned_more : (xs : List Turn) (rs : List (List ℕ)) (t : ℕ) → t < length rs → t < length xs
    → set (turned_by (take t xs) rs) t (turned_if (get_or xs t Straight) (get_or (turned_by (take t xs) rs) t [])) ≡ turned_by (take (suc t) xs) rs
turned_more xs [] t l k = absurd (omega arith)
turned_more [] (r ∷ rs) t l k = absurd (omega arith)
turned_more (x ∷ xs) (r ∷ rs) zero l k = refl
turned_more (x ∷ xs) (r ∷ rs) (suc t) l k = ap (λ (ys : List (List ℕ)). turned_if x r ∷ ys) (turned_more xs rs t (omega arith) (omega arith))

pub turned_one : (xs : List Turn) (rs : List (List ℕ)) (t : ℕ) → t < length rs → t < length xs → get_or xs t Straight ≡ Turned
    → set (turned_by (take t xs) rs) t (turned_row (get_or (turned_by (take t xs) rs) t [])) ≡ turned_by (take (suc t) xs) rs
turned_one xs rs t l k e = ap (λ (x : Turn). set (turned_by (take t xs) rs) t (turned_if x (get_or (turned_by (take t xs) rs) t []))) (sym e) ∙ turned_more xs rs t l k

not_turned : (x : Turn) → (x ≡ Turned → ⊥) → x ≡ Straight
not_turned Straight n = refl
not_turned Turned n = absurd (n refl)

pub turned_skip : (xs : List Turn) (rs : List (List ℕ)) (t : ℕ) → t < length rs → t < length xs → (get_or xs t Straight ≡ Turned → ⊥) → turned_by (take t xs) rs ≡ turned_by (take (suc t) xs) rs
turned_skip xs rs t l k n =
    sym (set-get_or (turned_by (take t xs) rs) t [])
    ∙ ap (λ (x : Turn). set (turned_by (take t xs) rs) t (turned_if x (get_or (turned_by (take t xs) rs) t []))) (sym (not_turned (get_or xs t Straight) n)) ∙ turned_more xs rs t l k

-- labels past the last row say nothing
pub turned_take : (xs : List Turn) (rs : List (List ℕ)) (n : ℕ) → length rs ≤ n → turned_by (take n xs) rs ≡ turned_by xs rs
turned_take xs [] n l = turned_none (take n xs) ∙ sym (turned_none xs)
turned_take xs (r ∷ rs) zero l = absurd (omega arith)
turned_take [] (r ∷ rs) (suc n) l = refl
turned_take (x ∷ xs) (r ∷ rs) (suc n) l = ap (λ (ys : List (List ℕ)). turned_if x r ∷ ys) (turned_take xs rs n (omega arith))

-- labels that are alike below the last row turn alike
pub turned_same : (xs ys : List Turn) (rs : List (List ℕ)) → length rs ≤ length xs → length rs ≤ length ys → ((i : ℕ) → i < length rs → get_or xs i Straight ≡ get_or ys i Straight) → turned_by xs rs ≡ turned_by ys rs
turned_same xs ys [] l k f = turned_none xs ∙ sym (turned_none ys)
turned_same [] ys (r ∷ rs) l k f = absurd (omega arith)
turned_same (x ∷ xs) [] (r ∷ rs) l k f = absurd (omega arith)
turned_same (x ∷ xs) (y ∷ ys) (r ∷ rs) l k f =
    ap (λ (z : Turn). turned_if z r ∷ turned_by xs rs) (f 0 (omega arith))
    ∙ ap (λ (z : List (List ℕ)). turned_if y r ∷ z) (turned_same xs ys rs (omega arith) (omega arith) (λ i p. f (suc i) (omega arith)))
