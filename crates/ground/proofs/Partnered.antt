-- From what a scan has seen: the partners of the four triangles, or that one of them is in two cells.
use Rattle.std.proofs.Common.{◌≡◌, ℕ, ◌+◌, ◌*◌, ◌/◌, ◌%◌, ◌<◌, ◌≤◌, true, false, ◌||◌, ◌⊎◌, List, [], length, get_or, is_some as option_is_some, Some, None, Option, sym, refl, ap, ◌∙◌, subst, inl, inr, ⊎_elim, arith}
use Rattle.std.proofs.lemmas.Bool.{cases_eq, cases_order, false≢true, or_cases, or_parts, both_ways}
use Rattle.ground.specs.declared.cell.Cell.{Cell}
use Rattle.rules.specs.PlainList.{CrowdedIn, StandsIn}
use Rattle.rules.specs.Tests.{on, on_face, Fine}
use Rattle.rules.proofs.Corners.{triangle_to, triangle_from, vertices_to, by_four, faces_apart}
use Rattle.ground.specs.Records.{rows, join_at}
use Rattle.ground.specs.Searches.{Met, Lawful, Passed, joined_at, any_joined}
use Rattle.rules.proofs.Exact.{Exact}
use Rattle.ground.proofs.Records.{length_rows}
use Rattle.ground.proofs.Turned.{exact_of, face_at}
use Rattle.rules.proofs.Options.{some_eq}

some_cases : (o : Option ℕ) → ((k : ℕ) × (o ≡ Some k)) ⊎ (o ≡ None)
some_cases None = inr refl
some_cases (Some k) = inl (k, refl)

is_some : (o : Option ℕ) → option_is_some o ≡ true → (k : ℕ) × (o ≡ Some k)
is_some None p = absurd (false≢true p)
is_some (Some k) p = (k, refl)

joined_so : (cs : List Cell) (o : Option ℕ) → joined_at cs o ≡ true → (g : ℕ) × (k : ℕ) × (o ≡ Some g) × (join_at cs g ≡ Some k)
joined_so cs None p = absurd (false≢true p)
joined_so cs (Some g) p = let k = is_some (join_at cs g) p in (g, k.0, refl, k.1)

joined_not : (cs : List Cell) (o : Option ℕ) (g k : ℕ) → joined_at cs o ≡ false → o ≡ Some g → join_at cs g ≡ Some k → ⊥
joined_not cs o g k n p q = both_ways (joined_at cs o) n (ap (joined_at cs) p ∙ ap option_is_some q)

any_joined_so : (cs : List Cell) (os : List (Option ℕ)) → any_joined cs os ≡ true → (i : ℕ) × (i < 4) × (joined_at cs (get_or os i None) ≡ true)
any_joined_so cs os p =
    ⊎_elim (λ q. (0, omega arith, q)) (λ p.
    ⊎_elim (λ q. (1, omega arith, q)) (λ p.
    ⊎_elim (λ q. (2, omega arith, q)) (λ q. (3, omega arith, q))
    (or_cases (joined_at cs (get_or os 2 None)) (joined_at cs (get_or os 3 None)) p))
    (or_cases (joined_at cs (get_or os 1 None)) _ p))
    (or_cases (joined_at cs (get_or os 0 None)) _ p)

none_joined_so : (cs : List Cell) (os : List (Option ℕ)) → any_joined cs os ≡ false → (i : ℕ) → i < 4 → joined_at cs (get_or os i None) ≡ false
none_joined_so cs os p =
    let a = or_parts (joined_at cs (get_or os 0 None)) (joined_at cs (get_or os 1 None) || (joined_at cs (get_or os 2 None) || joined_at cs (get_or os 3 None))) p in
    let b = or_parts (joined_at cs (get_or os 1 None)) (joined_at cs (get_or os 2 None) || joined_at cs (get_or os 3 None)) a.1 in
    let d = or_parts (joined_at cs (get_or os 2 None)) (joined_at cs (get_or os 3 None)) b.1 in
    by_four (λ (i : ℕ). joined_at cs (get_or os i None) ≡ false) a.0 b.0 d.0 d.1

module _ (cs : List Cell) (n : ℕ) (x : List ℕ) (os : List (Option ℕ)) (room : n ≤ length cs) (law : Lawful cs n) (past : Passed (rows cs n) x (length (rows cs n)) os) where
  len : length (rows cs n) ≡ n
  len = length_rows cs n room

  exact : Exact (on_face (rows cs n)) (4 * n) (join_at cs)
  exact = exact_of (on_face (rows cs n)) (4 * n) (join_at cs) law.near law.other law.same law.whole

  found : (i g : ℕ) → i < 4 → get_or os i None ≡ Some g → (g < 4 * n) × ((v : ℕ) → on x i v ≡ on_face (rows cs n) g v)
  found i g l p = subst (λ (k : ℕ). (g < 4 * k) × ((v : ℕ) → on x i v ≡ on_face (rows cs n) g v)) len ((past.seen i l).sound g p)

  missed : (i g : ℕ) → i < 4 → get_or os i None ≡ None → g < 4 * n → ((v : ℕ) → on x i v ≡ on_face (rows cs n) g v) → ⊥
  missed i g l p b = (past.seen i l).whole p g (subst (λ (k : ℕ). g < 4 * k) (sym len) b)

  pub not_standing : StandsIn (rows cs n) x → ⊥
  not_standing s = past.fresh s.0 s.1 (vertices_to (get_or (rows cs n) s.0 []) x s.2)

  fine : (t : ℕ) → t < n → Fine (get_or (rows cs n) t [])
  fine t l = let m : t < length (rows cs n) = rw len l in record { below = λ i b. law.below t i (m, b); differ = λ i j a b e. law.differ t i j (m, a, b, e) }

  -- two half-faces on the same triangle are of two cells
  two_cells : (g k : ℕ) → g < 4 * n → (k ≡ g → ⊥) → ((v : ℕ) → on_face (rows cs n) g v ≡ on_face (rows cs n) k v) → g / 4 ≡ k / 4 → ⊥
  two_cells g k l ne s e =
      let q : g % 4 ≡ k % 4 = faces_apart (get_or (rows cs n) (g / 4) []) (fine (g / 4) (omega arith)) (g % 4) (k % 4) (omega arith)
      (λ v. s v ∙ face_at (rows cs n) k (g / 4) (k % 4) v (sym e) refl) in
      ne (omega arith)

  crowd : (i g k : ℕ) → i < 4 → g < 4 * n → k < 4 * n → g / 4 < k / 4 → ((v : ℕ) → on x i v ≡ on_face (rows cs n) g v) → ((v : ℕ) → on x i v ≡ on_face (rows cs n) k v) → CrowdedIn (rows cs n) x
  crowd i g k i4 gl kl o a b =
      let m : k / 4 < length (rows cs n) = rw len (omega arith) in (
        i,
        g / 4,
        k / 4,
        i4,
        o,
        m,
        (g % 4, omega arith, triangle_from x (get_or (rows cs n) (g / 4) []) i (g % 4) i4 (omega arith) a),
        (k % 4, omega arith, triangle_from x (get_or (rows cs n) (k / 4) []) i (k % 4) i4 (omega arith) b),
      )

  pub crowded_so : any_joined cs os ≡ true → CrowdedIn (rows cs n) x
  crowded_so p =
      let w = any_joined_so cs os p in
      let i = w.0 in
      let j = joined_so cs (get_or os w.0 None) w.2 in
      let f = found w.0 j.0 w.1 j.2 in
      let kn : j.1 < 4 * n = exact.near j.0 j.1 f.0 j.3 in
      let s = exact.same j.0 j.1 f.0 j.3 in
      ⊎_elim
      (λ e. absurd (two_cells j.0 j.1 f.0 (exact.other j.0 j.1 f.0 j.3) s e))
      (λ o. ⊎_elim
      (λ l. crowd w.0 j.0 j.1 w.1 f.0 kn l f.1 (λ v. f.1 v ∙ s v))
      (λ l. crowd w.0 j.1 j.0 w.1 kn f.0 l (λ v. f.1 v ∙ s v) f.1) o)
      (cases_order (j.0 / 4) (j.1 / 4))

  module _ (none : any_joined cs os ≡ false) where
    -- what is found is the only one
    only : (i g : ℕ) → i < 4 → g < 4 * n → ((v : ℕ) → on x i v ≡ on_face (rows cs n) g v) → get_or os i None ≡ Some g
    only i g l b s =
        ⊎_elim
        (λ w. ⊎_elim
        (λ e. w.1 ∙ ap Some e)
        (λ ne. let f = found i w.0 l w.1 in
        absurd (joined_not cs (get_or os i None) w.0 g (none_joined_so cs os none i l) w.1 (exact.whole w.0 g f.0 b (λ q. ne (sym q)) (λ v. sym (f.1 v) ∙ s v))))
        (cases_eq w.0 g))
        (λ p. absurd (missed i g l p b s))
        (some_cases (get_or os i None))

    pub met_so : Met (rows cs n) x os
    met_so = record {
      sound = λ i g l p. (past.seen i l).sound g p;
      whole = λ i g l b s. only i g l (subst (λ (k : ℕ). g < 4 * k) len b) s;
      fresh = past.fresh;
    }

    pub not_crowded : CrowdedIn (rows cs n) x → ⊥
    not_crowded (i, t, u, i4, o, b, (j, j4, p), (k, k4, q)) =
        let un : u < n = rw len at b in
        let a = only i (4 * t + j) i4 (omega arith) (λ v. triangle_to x (get_or (rows cs n) t []) i j i4 j4 p v ∙ sym (face_at (rows cs n) (4 * t + j) t j v (omega arith) (omega arith))) in
        let d = only i (4 * u + k) i4 (omega arith) (λ v. triangle_to x (get_or (rows cs n) u []) i k i4 k4 q v ∙ sym (face_at (rows cs n) (4 * u + k) u k v (omega arith) (omega arith))) in
        let z : 4 * t + j ≡ 4 * u + k = some_eq (4 * t + j) (4 * u + k) (sym a ∙ d) in
        omega arith
