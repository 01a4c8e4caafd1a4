-- The corner at a vertex, and the step over a join, from corners that were read.
use Rattle.std.proofs.Common.{◌≡◌, ℕ, ◌+◌, ◌*◌, ◌/◌, ◌%◌, ◌<◌, List, [], get_or, Some, None, sym, ap, ◌∙◌, subst, arith}
use Rattle.rules.specs.Rows.{corner, vertices}
use Rattle.rules.specs.Joins.{Joined, OnSkin, LawfulRows}
use Rattle.rules.specs.Nets.{AllDiffer}
use Rattle.rules.specs.NetTests.{corner_at, sent, label, crossing, stepped, cell_steps}
use Rattle.rules.proofs.Corners.{by_four}
use Rattle.rules.proofs.CornerNets.{corner_0, corner_1, corner_2, corner_3, Lawful, lawful_vertices, label_vertices, crossing_lawful, across_none}
use Rattle.rules.proofs.Told.{told_partner}

-- the first corner at a vertex
pub corner_first : (x : List ℕ) (v i : ℕ) → i < 4 → corner x i ≡ v → ((k : ℕ) → k < i → corner x k ≡ v → ⊥) → corner_at x v ≡ i
corner_first x v =
    by_four (λ (i : ℕ). corner x i ≡ v → ((k : ℕ) → k < i → corner x k ≡ v → ⊥) → corner_at x v ≡ i)
    (λ e n. corner_0 x v e)
    (λ e n. corner_1 x v (n 0 (omega arith)) e)
    (λ e n. corner_2 x v (n 0 (omega arith)) (n 1 (omega arith)) e)
    (λ e n. corner_3 x v (n 0 (omega arith)) (n 1 (omega arith)) (n 2 (omega arith)))

module _ (rs : List (List ℕ)) (h g : ℕ) (x y : List ℕ) (ex : x ≡ vertices (get_or rs (h / 4) [])) (ey : y ≡ vertices (get_or rs (g / 4) [])) where
  pub read_lawful : AllDiffer rs → Joined rs h g → Lawful (sent x (h % 4) y (g % 4))
  read_lawful d j =
      subst (λ (z : List ℕ). Lawful (sent x (h % 4) z (g % 4))) (sym ey)
      (subst (λ (z : List ℕ). Lawful (sent z (h % 4) (vertices (get_or rs (g / 4) [])) (g % 4))) (sym ex)
      (lawful_vertices (get_or rs (h / 4) []) (get_or rs (g / 4) []) (h % 4) (g % 4) (crossing_lawful rs d h g j)))

  pub read_label : label (sent x (h % 4) y (g % 4)) ≡ crossing rs h g
  unfolding crossing
  read_label =
      ap (λ (z : List ℕ). label (sent z (h % 4) y (g % 4))) ex
      ∙ ap (λ (z : List ℕ). label (sent (vertices (get_or rs (h / 4) [])) (h % 4) z (g % 4))) ey
      ∙ label_vertices (get_or rs (h / 4) []) (get_or rs (g / 4) []) (h % 4) (g % 4)

-- the step at a side, by what is told of its opposite
module _ (rs : List (List ℕ)) (law : LawfulRows rs) (i s : ℕ) (low : s < 4) where
  pub crossing_told : (g : ℕ) → Joined rs (4 * i + s) g → crossing rs (4 * i + s) g ≡ cell_steps rs 123 (crossing rs) i s
  unfolding cell_steps
  crossing_told g j = let half = j.half in ap (stepped 123 (crossing rs) (4 * i + s)) (told_partner rs law.no_three i s (Some g) (omega arith) low j)

  pub crossing_open : OnSkin rs (4 * i + s) → 123 ≡ cell_steps rs 123 (crossing rs) i s
  crossing_open o = let half = o.0 in across_none rs i s (sym (told_partner rs law.no_three i s None (omega arith) low o))
