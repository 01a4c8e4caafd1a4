-- What one write of a record does to the rows and to the joins.
use Rattle.std.proofs.Common.{◌≡◌, ℕ, ◌+◌, ◌*◌, ◌/◌, ◌%◌, ◌<◌, ◌≤◌, cond, eqb, ◌≢◌, List, [], map, length, get_or, take, set, Some, None, Option, sym, refl, ap, ◌∙◌, ⊎_elim, arith}
use lib.Seq.{take-set-lt}
use Rattle.std.proofs.lemmas.List.{length-set, get_or-set_same, get_or-set_other, map-set, get_or-map, get_or-take, take-set-le, length-map, length-take-le, set-get_or}
use Rattle.std.proofs.lemmas.Bool.{eq-eqb, ne_eqb, cases_eq, cases_lt, cond-true, cond-false}
use Rattle.ground.specs.declared.cell.Cell.{Cell}
use Rattle.rules.specs.Rows.{turned_row}
use Rattle.rules.specs.Tests.{names}
use Rattle.ground.specs.Records.{blank, corners_of, rows, join_at, relinked, turned_cell, turned_cells}

pub length_rows : (cs : List Cell) (n : ℕ) → n ≤ length cs → length (rows cs n) ≡ n
length_rows cs n l = length-map (take n cs) corners_of ∙ length-take-le n cs l

pub row_taken : (cs : List Cell) (n t : ℕ) → n ≤ length cs → t < n → get_or (rows cs n) t [] ≡ (get_or (take n cs) t blank).corners
row_taken cs n t l h =
    let k : t < length (take n cs) = rw (length-take-le n cs l) h in
    get_or-map corners_of (take n cs) t blank [] k

pub rows_at : (cs : List Cell) (n t : ℕ) → n ≤ length cs → t < n → get_or (rows cs n) t [] ≡ (get_or cs t blank).corners
rows_at cs n t l h = row_taken cs n t l h ∙ ap corners_of (get_or-take n cs t blank h)

pub rows_set : (cs : List Cell) (n t : ℕ) (c : Cell) → t < n → rows (set cs t c) n ≡ set (rows cs n) t c.corners
rows_set cs n t c h = ap (map corners_of) (take-set-lt n cs t c h) ∙ map-set corners_of (take n cs) t c

-- a write past the end of the rows leaves them
pub rows_past : (cs : List Cell) (n t : ℕ) (c : Cell) → n ≤ t → rows (set cs t c) n ≡ rows cs n
rows_past cs n t c h = ap (map corners_of) (take-set-le n cs t c h)

-- a write that keeps the corners leaves the rows
pub rows_kept : (cs : List Cell) (n t : ℕ) (c : Cell) → n ≤ length cs → c.corners ≡ (get_or cs t blank).corners → rows (set cs t c) n ≡ rows cs n
rows_kept cs n t c l e =
    ⊎_elim
    (λ h. rows_set cs n t c h ∙ ap (λ (x : List ℕ). set (rows cs n) t x) (e ∙ sym (rows_at cs n t l h)) ∙ set-get_or (rows cs n) t [])
    (λ h. rows_past cs n t c h)
    (cases_lt t n)

pub rows_relinked : (cs : List Cell) (n : ℕ) (w to : Option ℕ) → n ≤ length cs → rows (relinked cs w to) n ≡ rows cs n
rows_relinked cs n None to l = refl
rows_relinked cs n (Some g) to l = rows_kept cs n (g / 4) _ l refl

pub length_relinked : (cs : List Cell) (w to : Option ℕ) → length (relinked cs w to) ≡ length cs
length_relinked cs None to = refl
length_relinked cs (Some g) to = length-set cs (g / 4) _

-- the joins after a write of a record
pub join_at_here : (cs : List Cell) (t h : ℕ) (c : Cell) → t < length cs → h / 4 ≡ t → join_at (set cs t c) h ≡ get_or c.joins (h % 4) None
join_at_here cs t h c l e =
    ap (λ (x : Cell). get_or x.joins (h % 4) None) (ap (λ (k : ℕ). get_or (set cs t c) k blank) e ∙ get_or-set_same cs t c blank l)

pub join_at_there : (cs : List Cell) (t h : ℕ) (c : Cell) → (h / 4 ≡ t → ⊥) → join_at (set cs t c) h ≡ join_at cs h
join_at_there cs t h c ne = ap (λ (x : Cell). get_or x.joins (h % 4) None) (get_or-set_other cs t (h / 4) c blank ne)

-- room for the half-face that w names
abbrev pub Held : List Cell → Option ℕ → Type 0
Held cs w = (g : ℕ) → w ≡ Some g → (g / 4 < length cs) × (g % 4 < length (get_or cs (g / 4) blank).joins)

pub join_at_named : (cs : List Cell) (g h : ℕ) (to : Option ℕ) → Held cs (Some g) → h ≡ g → join_at (relinked cs (Some g) to) h ≡ to
join_at_named cs g h to k e =
    ap (join_at (relinked cs (Some g) to)) e
    ∙ join_at_here cs (g / 4) g _ (k g refl).0 refl
    ∙ get_or-set_same (get_or cs (g / 4) blank).joins (g % 4) to None (k g refl).1

pub join_at_unnamed : (cs : List Cell) (g h : ℕ) (to : Option ℕ) → Held cs (Some g) → (h ≡ g → ⊥) → join_at (relinked cs (Some g) to) h ≡ join_at cs h
join_at_unnamed cs g h to k ne =
    ⊎_elim
    (λ e. let d : h % 4 ≢ g % 4 = omega arith in
    join_at_here cs (g / 4) h _ (k g refl).0 e
    ∙ get_or-set_other (get_or cs (g / 4) blank).joins (g % 4) (h % 4) to None d
    ∙ ap (λ (t : ℕ). get_or (get_or cs t blank).joins (h % 4) None) (sym e))
    (λ d. join_at_there cs (g / 4) h _ d)
    (cases_eq (h / 4) (g / 4))

pub join_at_relinked : (cs : List Cell) (w to : Option ℕ) (h : ℕ) → Held cs w → join_at (relinked cs w to) h ≡ cond (names w h) to (join_at cs h)
join_at_relinked cs None to h k = refl
join_at_relinked cs (Some g) to h k =
    ⊎_elim
    (λ e. join_at_named cs g h to k e ∙ sym (cond-true (eqb g h) to (join_at cs h) (eq-eqb g h (sym e))))
    (λ d. join_at_unnamed cs g h to k d ∙ sym (cond-false (eqb g h) to (join_at cs h) (ne_eqb g h (λ q. d (sym q)))))
    (cases_eq h g)

pub rows_turned : (cs : List Cell) (n t : ℕ) → n ≤ length cs → t < n → rows (turned_cells cs t) n ≡ set (rows cs n) t (turned_row (get_or (rows cs n) t []))
rows_turned cs n t l h =
    let c1 = set cs t (turned_cell (get_or cs t blank)) in
    let l1 : n ≤ length c1 = rw (length-set cs t (turned_cell (get_or cs t blank))) l in
    let c2 = relinked c1 (get_or (get_or cs t blank).joins 2 None) (Some (4 * t + 3)) in
    let l2 : n ≤ length c2 = rw (length_relinked c1 (get_or (get_or cs t blank).joins 2 None) (Some (4 * t + 3))) l1 in
    rows_relinked c2 n (get_or (get_or cs t blank).joins 3 None) (Some (4 * t + 2)) l2
    ∙ rows_relinked c1 n (get_or (get_or cs t blank).joins 2 None) (Some (4 * t + 3)) l1
    ∙ rows_set cs n t (turned_cell (get_or cs t blank)) h
    ∙ ap (λ (x : List ℕ). set (rows cs n) t (turned_row x)) (sym (rows_at cs n t l h))
