-- Labels agree over the turn net exactly if the rows that they turn read opposite ways at every join.
use Rattle.std.proofs.Common.{◌≡◌, ℕ, zero, suc, ◌+◌, ◌-◌, ◌*◌, ◌/◌, ◌%◌, ◌<◌, Bool, true, false, cond, not, ◌||◌, eqb, ◌≢◌, ◌⊎◌, List, [], ◌∷◌, map, length, get_or, Some, None, Option, sym, refl, ap, ◌∙◌, subst, inl, inr, ⊎_elim, arith}
use Rattle.std.proofs.lemmas.Bool.{eq-eqb, ne_eqb, cases_eq, cases_Bool, cond-true, cond-false}
use Rattle.carry.specs.declared.turn.Turn.{Turn}
use Rattle.carry.specs.declared.turn.Turn.TheVariants.{Straight, Turned}
use Rattle.carry.specs.Turns.{turn_meaning, turn_kind}
use Rattle.carry.specs.Agreement.{Agrees}
use Rattle.rules.specs.Rows.{turned_row}
use Rattle.rules.specs.Readings.{face, listed}
use Rattle.rules.specs.Joins.{Joined}
use Rattle.rules.specs.Nets.{turned_if, turned_by}
use Rattle.rules.specs.Tests.{on_face, Differ}
use Rattle.rules.specs.NetTests.{rotation, among, read_at, alike, opposite, cell_joins, cell_steps, turn_web, stepped, turning}
use Rattle.rules.proofs.Corners.{by_four}
use Rattle.rules.proofs.Exact.{Exact, renumber}
use Rattle.rules.proofs.Webbed.{face_reading, among_0, among_1, among_2, opposite_is, joined_from, joined_to, steps_in}
use Rattle.rules.proofs.Opposites.{opposite_of}
use Rattle.rules.proofs.Rotated.{Swapped, Distinct, flips, rotation_sym}
use Rattle.rules.proofs.Labelled.{length_turned, row_at}

-- all joined triangles read opposite ways, by the tests
abbrev pub Opposed : List (List ℕ) → Type 0
Opposed rs = (h g : ℕ) → h < 4 * length rs → opposite rs h ≡ Some g → alike rs h g ≡ false

abbrev reading : List ℕ → ℕ → List ℕ
reading x i = listed (face x i)

abbrev turn_steps : List (List ℕ) → ℕ → ℕ → ℕ
turn_steps rs = cell_steps rs 0 (turning rs)

-- the half-face of the unturned row that half-face h of the turned one has the vertices of
abbrev pub flipped : ℕ → ℕ
flipped h = cond (eqb (h % 4) 2) (h + 1) (cond (eqb (h % 4) 3) (h - 1) h)

flipped_2 : (h : ℕ) → h % 4 ≡ 2 → flipped h ≡ h + 1
flipped_2 h e = cond-true (eqb (h % 4) 2) (h + 1) (cond (eqb (h % 4) 3) (h - 1) h) (eq-eqb (h % 4) 2 e)

flipped_3 : (h : ℕ) → h % 4 ≡ 3 → flipped h ≡ h - 1
flipped_3 h e =
    cond-false (eqb (h % 4) 2) (h + 1) (cond (eqb (h % 4) 3) (h - 1) h) (ne_eqb (h % 4) 2 (λ z. omega arith))
    ∙ cond-true (eqb (h % 4) 3) (h - 1) h (eq-eqb (h % 4) 3 e)

flipped_low : (h : ℕ) → h % 4 < 2 → flipped h ≡ h
flipped_low h l =
    cond-false (eqb (h % 4) 2) (h + 1) (cond (eqb (h % 4) 3) (h - 1) h) (ne_eqb (h % 4) 2 (λ z. omega arith))
    ∙ cond-false (eqb (h % 4) 3) (h - 1) h (ne_eqb (h % 4) 3 (λ z. omega arith))

three_ways : (h : ℕ) → (h % 4 < 2) ⊎ ((h % 4 ≡ 2) ⊎ (h % 4 ≡ 3))
three_ways h = ⊎_elim (λ a. inr (inl a)) (λ n. ⊎_elim (λ b. inr (inr b)) (λ m. inl (omega arith)) (cases_eq (h % 4) 3)) (cases_eq (h % 4) 2)

flipped_cell : (h : ℕ) → flipped h / 4 ≡ h / 4
flipped_cell h =
    ⊎_elim (λ l. ap (λ (x : ℕ). x / 4) (flipped_low h l))
    (λ r. ⊎_elim (λ e. ap (λ (x : ℕ). x / 4) (flipped_2 h e) ∙ omega arith) (λ e. ap (λ (x : ℕ). x / 4) (flipped_3 h e) ∙ omega arith) r)
    (three_ways h)

flipped_twice : (h : ℕ) → flipped (flipped h) ≡ h
flipped_twice h =
    ⊎_elim (λ l. ap flipped (flipped_low h l) ∙ flipped_low h l)
    (λ r. ⊎_elim
    (λ e. let k : (h + 1) % 4 ≡ 3 = omega arith in ap flipped (flipped_2 h e) ∙ flipped_3 (h + 1) k ∙ omega arith)
    (λ e. let k : (h - 1) % 4 ≡ 2 = omega arith in ap flipped (flipped_3 h e) ∙ flipped_2 (h - 1) k ∙ omega arith) r)
    (three_ways h)

-- the readings of a turned row
swapped_at : (x : List ℕ) (h : ℕ) → Swapped (reading (turned_row x) (h % 4)) (reading x (flipped h % 4))
swapped_at x h =
    ⊎_elim
    (λ l. ⊎_elim
    (λ z. subst (λ (i : ℕ). Swapped (reading (turned_row x) i) (reading x (flipped h % 4))) (sym z)
    (subst (λ (i : ℕ). Swapped (reading (turned_row x) 0) (reading x i)) (sym (ap (λ (y : ℕ). y % 4) (flipped_low h l) ∙ z)) (inl refl)))
    (λ nz. let z : h % 4 ≡ 1 = omega arith in
    subst (λ (i : ℕ). Swapped (reading (turned_row x) i) (reading x (flipped h % 4))) (sym z)
    (subst (λ (i : ℕ). Swapped (reading (turned_row x) 1) (reading x i)) (sym (ap (λ (y : ℕ). y % 4) (flipped_low h l) ∙ z)) (inr (inl refl))))
    (cases_eq (h % 4) 0))
    (λ r. ⊎_elim
    (λ z. let k : (h + 1) % 4 ≡ 3 = omega arith in
    subst (λ (i : ℕ). Swapped (reading (turned_row x) i) (reading x (flipped h % 4))) (sym z)
    (subst (λ (i : ℕ). Swapped (reading (turned_row x) 2) (reading x i)) (sym (ap (λ (y : ℕ). y % 4) (flipped_2 h z) ∙ k)) (inr (inr refl))))
    (λ z. let k : (h - 1) % 4 ≡ 2 = omega arith in
    subst (λ (i : ℕ). Swapped (reading (turned_row x) i) (reading x (flipped h % 4))) (sym z)
    (subst (λ (i : ℕ). Swapped (reading (turned_row x) 3) (reading x i)) (sym (ap (λ (y : ℕ). y % 4) (flipped_3 h z) ∙ k)) (inr (inr refl))))
    r)
    (three_ways h)

-- the vertices of a swapped reading
or_swap12 : (a b c : Bool) → (a || (c || b)) ≡ (a || (b || c))
or_swap12 a true true = refl
or_swap12 a true false = refl
or_swap12 a false true = refl
or_swap12 a false false = refl

or_swap02 : (a b c : Bool) → (c || (b || a)) ≡ (a || (b || c))
or_swap02 true b true = refl
or_swap02 true true false = refl
or_swap02 true false false = refl
or_swap02 false true true = refl
or_swap02 false false true = refl
or_swap02 false b false = refl

or_swap01 : (a b c : Bool) → (b || (a || c)) ≡ (a || (b || c))
or_swap01 true true c = refl
or_swap01 true false c = refl
or_swap01 false true c = refl
or_swap01 false false c = refl

swapped_among : (p' p : List ℕ) (v : ℕ) → Swapped p' p → among p' v ≡ among p v
swapped_among p' p v s =
    ⊎_elim (λ x. ap (λ (z : List ℕ). among z v) x ∙ or_swap12 (eqb (get_or p 0 0) v) (eqb (get_or p 1 0) v) (eqb (get_or p 2 0) v))
    (λ r. ⊎_elim
    (λ x. ap (λ (z : List ℕ). among z v) x ∙ or_swap02 (eqb (get_or p 0 0) v) (eqb (get_or p 1 0) v) (eqb (get_or p 2 0) v))
    (λ x. ap (λ (z : List ℕ). among z v) x ∙ or_swap01 (eqb (get_or p 0 0) v) (eqb (get_or p 1 0) v) (eqb (get_or p 2 0) v)) r)
    s

-- the labels
pub bit_of : (xs : List Turn) (i : ℕ) → get_or (map turn_meaning xs) i 0 ≡ turn_meaning (get_or xs i Straight)
bit_of [] i = refl
bit_of (x ∷ xs) zero = refl
bit_of (x ∷ xs) (suc i) = bit_of xs i

-- whether a label turns its row
abbrev turns : Turn → Bool
turns x = eqb (turn_meaning x) 1

if_turned : (x : Turn) (r : List ℕ) → turns x ≡ true → turned_if x r ≡ turned_row r
if_turned Straight r e = absurd (let z : ◌≡◌ {A = ℕ} 0 1 = cc in omega arith)
if_turned Turned r e = refl

if_straight : (x : Turn) (r : List ℕ) → turns x ≡ false → turned_if x r ≡ r
if_straight Straight r e = refl
if_straight Turned r e = absurd (let z : ◌≡◌ {A = ℕ} 0 1 = cc in omega arith)

-- a turn of either changes whether two read alike
abbrev flip_if : Bool → Bool → Bool
flip_if b k = cond b (not k) k

agree_bits : (x y : Turn) (k : Bool) → turn_meaning y ≡ (turn_meaning x + cond k 1 0) % 2 → flip_if (eqb (turn_meaning x) 1) (flip_if (eqb (turn_meaning y) 1) k) ≡ false
agree_bits Straight Straight true e = absurd (omega arith)
agree_bits Straight Straight false e = refl
agree_bits Straight Turned true e = refl
agree_bits Straight Turned false e = absurd (omega arith)
agree_bits Turned Straight true e = refl
agree_bits Turned Straight false e = absurd (omega arith)
agree_bits Turned Turned true e = absurd (omega arith)
agree_bits Turned Turned false e = refl

bits_agree : (x y : Turn) (k : Bool) → flip_if (eqb (turn_meaning x) 1) (flip_if (eqb (turn_meaning y) 1) k) ≡ false → turn_meaning y ≡ (turn_meaning x + cond k 1 0) % 2
bits_agree Straight Straight true e = absurd (let z : ◌≡◌ {A = ℕ} 0 1 = cc in omega arith)
bits_agree Straight Straight false e = refl
bits_agree Straight Turned true e = refl
bits_agree Straight Turned false e = absurd (let z : ◌≡◌ {A = ℕ} 0 1 = cc in omega arith)
bits_agree Turned Straight true e = refl
bits_agree Turned Straight false e = absurd (let z : ◌≡◌ {A = ℕ} 0 1 = cc in omega arith)
bits_agree Turned Turned true e = absurd (let z : ◌≡◌ {A = ℕ} 0 1 = cc in omega arith)
bits_agree Turned Turned false e = refl

smap : (ℕ → ℕ) → Option ℕ → Option ℕ
smap f None = None
smap f (Some g) = Some (f g)

smap_from : (f : ℕ → ℕ) (o : Option ℕ) (g : ℕ) → smap f o ≡ Some g → (k : ℕ) × (o ≡ Some k) × (f k ≡ g)
unfolding smap
smap_from f None g e = absurd (let z : ◌≡◌ {A = ℕ} 0 1 = cc in omega arith)
smap_from f (Some k) g e = (k, refl, cc)

smap_to : (f : ℕ → ℕ) (o : Option ℕ) (k : ℕ) → o ≡ Some k → smap f o ≡ Some (f k)
unfolding smap
smap_to f o k e = ap (smap f) e

-- the three vertices of a half-face differ
distinct_at : (rs : List (List ℕ)) (h : ℕ) → Differ rs → h / 4 < length rs → Distinct (read_at rs h)
distinct_at rs h d l =
    let t = h / 4 in
    let D : (i j : ℕ) → i < j → j < 4 → get_or (get_or rs (h / 4) []) i 0 ≢ get_or (get_or rs (h / 4) []) j 0 = λ i j p q z. d (h / 4) i j (l, p, q, z) in
    by_four (λ (i : ℕ). Distinct (reading (get_or rs (h / 4) []) i))
    (D 1 2 (omega arith) (omega arith), D 1 3 (omega arith) (omega arith), D 2 3 (omega arith) (omega arith))
    ((λ z. D 0 2 (omega arith) (omega arith) (sym z)), D 2 3 (omega arith) (omega arith), D 0 3 (omega arith) (omega arith))
    ((λ z. D 0 3 (omega arith) (omega arith) (sym z)), (λ z. D 1 3 (omega arith) (omega arith) (sym z)), D 0 1 (omega arith) (omega arith))
    (D 0 2 (omega arith) (omega arith), D 0 1 (omega arith) (omega arith), (λ z. D 1 2 (omega arith) (omega arith) (sym z)))
    (h % 4) (omega arith)

module _ (rs : List (List ℕ)) (J : ℕ → Option ℕ) (e : Exact (on_face rs) (4 * length rs) J) (d : Differ rs) (xs : List Turn) where
  abbrev ms : List ℕ
  ms = map turn_meaning xs

  -- whether the cell of half-face h is turned
  abbrev b : ℕ → Bool
  b h = turns (get_or xs (h / 4) Straight)

  abbrev σ : ℕ → ℕ
  σ h = cond (b h) (flipped h) h

  σ_cell : (h : ℕ) → σ h / 4 ≡ h / 4
  σ_cell h = ⊎_elim (λ t. ap (λ (x : ℕ). x / 4) (cond-true (b h) (flipped h) h t) ∙ flipped_cell h) (λ f. ap (λ (x : ℕ). x / 4) (cond-false (b h) (flipped h) h f)) (cases_Bool (b h))

  b_σ : (h : ℕ) → b (σ h) ≡ b h
  b_σ h = ap (λ (i : ℕ). turns (get_or xs i Straight)) (σ_cell h)

  b_flipped : (h : ℕ) → b (flipped h) ≡ b h
  b_flipped h = ap (λ (i : ℕ). turns (get_or xs i Straight)) (flipped_cell h)

  σ_twice : (h : ℕ) → σ (σ h) ≡ h
  σ_twice h =
      ⊎_elim
      (λ t. ap σ (cond-true (b h) (flipped h) h t) ∙ cond-true (b (flipped h)) (flipped (flipped h)) (flipped h) (b_flipped h ∙ t) ∙ flipped_twice h)
      (λ f. ap σ (cond-false (b h) (flipped h) h f) ∙ cond-false (b h) (flipped h) h f)
      (cases_Bool (b h))

  σ_in : (h : ℕ) → h < 4 * length rs → σ h < 4 * length rs
  σ_in h l = let z = σ_cell h in omega arith

  abbrev rs' : List (List ℕ)
  rs' = turned_by xs rs

  -- the readings after
  read_kept : (h : ℕ) → h / 4 < length rs → b h ≡ false → read_at rs' h ≡ read_at rs (σ h)
  read_kept h l f =
      ap (λ (x : List ℕ). reading x (h % 4)) (row_at xs rs (h / 4) l ∙ if_straight (get_or xs (h / 4) Straight) (get_or rs (h / 4) []) f)
      ∙ ap (read_at rs) (sym (cond-false (b h) (flipped h) h f))

  read_turned : (h : ℕ) → h / 4 < length rs → b h ≡ true → Swapped (read_at rs' h) (read_at rs (σ h))
  read_turned h l t =
      let row : get_or rs' (h / 4) [] ≡ turned_row (get_or rs (h / 4) []) = row_at xs rs (h / 4) l ∙ if_turned (get_or xs (h / 4) Straight) (get_or rs (h / 4) []) t in
      let s : Swapped (reading (turned_row (get_or rs (h / 4) [])) (h % 4)) (read_at rs (flipped h)) =
      subst (λ (i : ℕ). Swapped (reading (turned_row (get_or rs (h / 4) [])) (h % 4)) (reading (get_or rs i []) (flipped h % 4))) (sym (flipped_cell h)) (swapped_at (get_or rs (h / 4) []) h) in
      let s2 : Swapped (read_at rs' h) (read_at rs (flipped h)) = subst (λ (y : List ℕ). Swapped (reading y (h % 4)) (read_at rs (flipped h))) (sym row) s in
      subst (λ (k : ℕ). Swapped (read_at rs' h) (read_at rs k)) (sym (cond-true (b h) (flipped h) h t)) s2

  faces : (h v : ℕ) → h < 4 * length rs → on_face rs' h v ≡ on_face rs (σ h) v
  faces h v l =
      let m : h / 4 < length rs = omega arith in
      face_reading rs' h v
      ∙ ⊎_elim (λ t. swapped_among (read_at rs' h) (read_at rs (σ h)) v (read_turned h m t)) (λ f. ap (λ (p : List ℕ). among p v) (read_kept h m f)) (cases_Bool (b h))
      ∙ sym (face_reading rs (σ h) v)

  J' : ℕ → Option ℕ
  J' h = smap σ (J (σ h))

  J-to : (h g : ℕ) → h < 4 * length rs → J' h ≡ Some g → (g < 4 * length rs) × (J (σ h) ≡ Some (σ g))
  unfolding J'
  J-to h g l p =
      let k = smap_from σ (J (σ h)) g p in
      let z : k.0 ≡ σ g = sym (σ_twice k.0) ∙ ap σ k.2 in
      (subst (λ (x : ℕ). x < 4 * length rs) k.2 (σ_in k.0 (e.near (σ h) k.0 (σ_in h l) k.1)), k.1 ∙ ap Some z)

  J-from : (h g : ℕ) → h < 4 * length rs → g < 4 * length rs → J (σ h) ≡ Some (σ g) → J' h ≡ Some g
  unfolding J'
  J-from h g l k p = smap_to σ (J (σ h)) (σ g) p ∙ ap Some (σ_twice g)

  exact' : Exact (on_face rs') (4 * length rs') J'
  exact' = subst (λ (n : ℕ). Exact (on_face rs') (4 * n) J') (sym (length_turned xs rs))
      (renumber (on_face rs) (on_face rs') (4 * length rs) (4 * length rs) J J' σ
      (λ h g l k q. sym (σ_twice g) ∙ ap σ q ∙ σ_twice h) σ_in faces J-to J-from e)

  -- joined half-faces after
  pub opposite_after : (h g : ℕ) → Joined rs' h g → opposite rs' h ≡ Some g
  opposite_after h g j = opposite_of rs' J' exact' h g j

  in' : (h : ℕ) → h < 4 * length rs → h < 4 * length rs'
  in' h l = let z = length_turned xs rs in omega arith

  -- half-faces that are joined before, and those that are after
  before : (h g : ℕ) → h < 4 * length rs → opposite rs' h ≡ Some g → (g < 4 * length rs) × (opposite rs (σ h) ≡ Some (σ g))
  before h g l p =
      let q = J-to h g l (sym (opposite_is rs' J' exact' h (in' h l)) ∙ p) in
      (q.0, opposite_is rs J e (σ h) (σ_in h l) ∙ q.1)

  after : (h g : ℕ) → h < 4 * length rs → g < 4 * length rs → opposite rs (σ h) ≡ Some (σ g) → opposite rs' h ≡ Some g
  after h g l k p = opposite_is rs' J' exact' h (in' h l) ∙ J-from h g l k (sym (opposite_is rs J e (σ h) (σ_in h l)) ∙ p)

  -- whether two joined half-faces read alike after
  first_turned : (h : ℕ) (q : List ℕ) → h < 4 * length rs → ((v : ℕ) → among (read_at rs (σ h)) v ≡ among q v) → rotation (read_at rs' h) q ≡ flip_if (b h) (rotation (read_at rs (σ h)) q)
  first_turned h q l s =
      let m : h / 4 < length rs = omega arith in
      let z = σ_cell h in
      let p = read_at rs (σ h) in
      ⊎_elim
      (λ t. flips (read_at rs' h) p q (read_turned h m t) (distinct_at rs (σ h) d (omega arith)) (λ v w. sym (s v) ∙ w) (among_0 p) (among_1 p) (among_2 p)
      ∙ sym (cond-true (b h) (not (rotation p q)) (rotation p q) t))
      (λ f. ap (λ (y : List ℕ). rotation y q) (read_kept h m f) ∙ sym (cond-false (b h) (not (rotation p q)) (rotation p q) f))
      (cases_Bool (b h))

  alike_after : (h g : ℕ) → h < 4 * length rs → g < 4 * length rs → opposite rs (σ h) ≡ Some (σ g) → alike rs' h g ≡ flip_if (b h) (flip_if (b g) (alike rs (σ h) (σ g)))
  unfolding alike
  alike_after h g l k p =
      let same : (v : ℕ) → among (read_at rs (σ h)) v ≡ among (read_at rs (σ g)) v =
      λ v. sym (face_reading rs (σ h) v) ∙ e.same (σ h) (σ g) (σ_in h l) (sym (opposite_is rs J e (σ h) (σ_in h l)) ∙ p) v ∙ face_reading rs (σ g) v in
      let same-g : (v : ℕ) → among (read_at rs (σ g)) v ≡ among (read_at rs' g) v = λ v. sym (face_reading rs (σ g) v) ∙ sym (faces g v k) ∙ face_reading rs' g v in
      first_turned h (read_at rs' g) l (λ v. same v ∙ same-g v)
      ∙ ap (flip_if (b h)) (rotation_sym (read_at rs (σ h)) (read_at rs' g)
      ∙ first_turned g (read_at rs (σ h)) k (λ v. sym (same v))
      ∙ ap (flip_if (b g)) (rotation_sym (read_at rs (σ g)) (read_at rs (σ h))))

  -- one join of the web, as an equation between labels
  step_over : (h g : ℕ) → h < 4 * length rs → opposite rs h ≡ Some g → turn_steps rs (h / 4) (h % 4) ≡ cond (alike rs h g) 1 0
  step_over h g l p =
      let z : 4 * (h / 4) + h % 4 ≡ h = omega arith in
      steps_in rs 0 (turning rs) (h / 4) (h % 4) (omega arith) (omega arith) ∙ ap (λ (k : ℕ). stepped 0 (turning rs) k (opposite rs k)) z ∙ ap (stepped 0 (turning rs) h) p

  join_over : (h g : ℕ) → h < 4 * length rs → opposite rs h ≡ Some g → cell_joins rs (h / 4) (h % 4) ≡ Some (record { item = g / 4; side = g % 4 })
  join_over h g l p =
      let z : 4 * (h / 4) + h % 4 ≡ h = omega arith in
      let y : g ≡ 4 * (g / 4) + g % 4 = omega arith in
      joined_to rs (h / 4) (h % 4) (g / 4) (g % 4) (omega arith) (omega arith) (omega arith) (ap (opposite rs) z ∙ p ∙ ap Some y)

  pub agrees_opposed : Agrees (turn_web rs) turn_kind ms → Opposed rs'
  agrees_opposed a h g l' p =
      let l : h < 4 * length rs = omega (arith, length_turned xs rs) in
      let q = before h g l p in
      let s = σ_in h l in
      let x = get_or xs (h / 4) Straight in
      let y = get_or xs (g / 4) Straight in
      let k = alike rs (σ h) (σ g) in
      let over : get_or ms (σ g / 4) 0 ≡ (get_or ms (σ h / 4) 0 + turn_steps rs (σ h / 4) (σ h % 4)) % 2 = a (σ h / 4) (σ h % 4) (record { item = σ g / 4; side = σ g % 4 }) (join_over (σ h) (σ g) s q.1) in
      let eh : get_or ms (σ h / 4) 0 ≡ turn_meaning x = ap (λ (i : ℕ). get_or ms i 0) (σ_cell h) ∙ bit_of xs (h / 4) in
      let eg : get_or ms (σ g / 4) 0 ≡ turn_meaning y = ap (λ (i : ℕ). get_or ms i 0) (σ_cell g) ∙ bit_of xs (g / 4) in
      let over2 : turn_meaning y ≡ (turn_meaning x + cond k 1 0) % 2 =
      sym eg ∙ over ∙ ap (λ (n : ℕ). (n + turn_steps rs (σ h / 4) (σ h % 4)) % 2) eh ∙ ap (λ (n : ℕ). (turn_meaning x + n) % 2) (step_over (σ h) (σ g) s q.1) in
      alike_after h g l q.0 q.1 ∙ agree_bits x y k over2

  pub opposed_agrees : Opposed rs' → Agrees (turn_web rs) turn_kind ms
  opposed_agrees o i s p j =
      let r = joined_from rs i s p j in
      let h0 : ℕ = 4 * i + s in
      let g0 : ℕ = 4 * p.item + p.side in
      let l0 : 4 * i + s < 4 * length rs = omega arith in
      let n0 : 4 * p.item + p.side < 4 * length rs = e.near (4 * i + s) (4 * p.item + p.side) l0 (sym (opposite_is rs J e (4 * i + s) l0) ∙ r.2) in
      let h = σ (4 * i + s) in
      let g = σ (4 * p.item + p.side) in
      let l = σ_in (4 * i + s) l0 in
      let n = σ_in (4 * p.item + p.side) n0 in
      let opp : opposite rs (σ (σ (4 * i + s))) ≡ Some (σ (σ (4 * p.item + p.side))) = ap (opposite rs) (σ_twice (4 * i + s)) ∙ r.2 ∙ ap Some (sym (σ_twice (4 * p.item + p.side))) in
      let no : alike rs' h g ≡ false = o h g (in' h l) (after h g l n opp) in
      let k = alike rs (4 * i + s) (4 * p.item + p.side) in
      let x = get_or xs i Straight in
      let y = get_or xs p.item Straight in
      let ih : σ (4 * i + s) / 4 ≡ i = σ_cell (4 * i + s) ∙ omega arith in
      let ig : σ (4 * p.item + p.side) / 4 ≡ p.item = σ_cell (4 * p.item + p.side) ∙ omega arith in
      let bh : b h ≡ turns x = ap (λ (t : ℕ). turns (get_or xs t Straight)) ih in
      let bg : b g ≡ turns y = ap (λ (t : ℕ). turns (get_or xs t Straight)) ig in
      let kk : alike rs (σ h) (σ g) ≡ k = ap (λ (t : ℕ). alike rs t (σ g)) (σ_twice (4 * i + s)) ∙ ap (alike rs (4 * i + s)) (σ_twice (4 * p.item + p.side)) in
      let f : flip_if (eqb (turn_meaning x) 1) (flip_if (eqb (turn_meaning y) 1) k) ≡ false =
      ap (λ (t : Bool). flip_if t (flip_if (eqb (turn_meaning y) 1) k)) (sym bh) ∙ ap (λ (t : Bool). flip_if (b h) (flip_if t k)) (sym bg) ∙ ap (λ (t : Bool). flip_if (b h) (flip_if (b g) t)) (sym kk)
      ∙ sym (alike_after h g l n opp) ∙ no in
      let st : turn_steps rs i s ≡ cond k 1 0 = steps_in rs 0 (turning rs) i s r.0 r.1 ∙ ap (stepped 0 (turning rs) (4 * i + s)) r.2 in
      bit_of xs p.item ∙ bits_agree x y k f
      ∙ ap (λ (t : ℕ). (t + cond k 1 0) % 2) (sym (bit_of xs i)) ∙ ap (λ (t : ℕ). (get_or ms i 0 + t) % 2) (sym st)
