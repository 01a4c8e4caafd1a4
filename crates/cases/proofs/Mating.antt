-- Mates on the skin, by computation.
use Rattle.std.proofs.Common.{◌≡◌, ℕ, zero, suc, ◌*◌, ◌/◌, ◌<◌, Bool, true, false, not, ◌&&◌, ◌||◌, eqb, ltb, List, length, refl, subst, inl, inr, ⊎_elim, arith}
use Rattle.std.proofs.lemmas.Bool.{and_parts, or_cases, ltb-true, eqb-true, eqb-false, not-true, false≢true}
use Rattle.rules.specs.Readings.{Reading, reads}
use Rattle.rules.specs.Joins.{OnSkin}
use Rattle.rules.specs.Mates.{Runs, EdgeAt, Beside, Mate, Mated}
use Rattle.rules.specs.Mates.Mate.{arrives, crosses}
use Rattle.rules.specs.NetTests.{lowest, opposite}
use Rattle.rules.proofs.Opposites.{opposite_joined}
use Rattle.rules.proofs.Webbed.{lowest_some}
use Rattle.cases.proofs.Finite.{some, some_at, has, has_at}
use Rattle.cases.proofs.Halves.{opens, opens_so}

-- the two vertices of an edge place
abbrev pub start : Reading → ℕ → ℕ
start a zero = a.p
start a (suc zero) = a.q
start a (suc (suc e)) = a.r

abbrev pub end : Reading → ℕ → ℕ
end a zero = a.q
end a (suc zero) = a.r
end a (suc (suc e)) = a.p

runs_own : (a : Reading) (e : ℕ) → e < 3 → Runs a e (start a e) (end a e)
runs_own a zero l = (refl, refl)
runs_own a (suc zero) l = (refl, refl)
runs_own a (suc (suc zero)) l = (refl, refl)
runs_own a (suc (suc (suc e))) l = absurd (omega arith)

-- edge place e runs from u to v
unfoldable pub runs : Reading → ℕ → ℕ → ℕ → Bool
runs a e u v = eqb (start a e) u && eqb (end a e) v

runs_so : (a : Reading) (e u v : ℕ) → e < 3 → runs a e u v ≡ true → Runs a e u v
unfolding runs
runs_so a e u v l t =
    let p = and_parts (eqb (start a e) u) _ t in
    subst (λ (x : ℕ). Runs a e x v) (eqb-true (start a e) u p.0) (subst (Runs a e (start a e)) (eqb-true (end a e) v p.1) (runs_own a e l))

-- it is their edge
unfoldable pub edge_at : Reading → ℕ → ℕ → ℕ → Bool
edge_at a e u v = runs a e u v || runs a e v u

edge_so : (a : Reading) (e u v : ℕ) → e < 3 → edge_at a e u v ≡ true → EdgeAt a e u v
unfolding edge_at
edge_so a e u v l t = ⊎_elim (λ p. inl (runs_so a e u v l p)) (λ p. inr (runs_so a e v u l p)) (or_cases (runs a e u v) _ t)

-- g is the other half-face of the cell of h that has the edge
unfoldable pub besides : List (List ℕ) → ℕ → ℕ → ℕ → ℕ → Bool
besides rs u v h g = (eqb (g / 4) (h / 4) && not (eqb g h)) && some 3 (λ e. edge_at (reads rs g) e u v)

besides_so : (rs : List (List ℕ)) (u v h g : ℕ) → besides rs u v h g ≡ true → Beside rs u v h g
unfolding besides
besides_so rs u v h g t =
    let a = and_parts (eqb (g / 4) (h / 4) && not (eqb g h)) _ t in
    let b = and_parts (eqb (g / 4) (h / 4)) _ a.0 in
    let e = some_at 3 (λ e. edge_at (reads rs g) e u v) a.1 in
    record { cell = eqb-true (g / 4) (h / 4) b.0; other = eqb-false g h (not-true _ b.1); edge = (e.0, edge_so (reads rs g) e.0 u v e.1 e.2) }

-- from h round the edge to m, by at most n cells
unfoldable pub mates : List (List ℕ) → ℕ → ℕ → ℕ → ℕ → ℕ → Bool
mates rs u v zero h m = false
mates rs u v (suc n) h m = has (lowest (besides rs u v h) (4 * length rs)) (λ g. (opens rs g && eqb g m) || has (opposite rs g) (λ o. mates rs u v n o m))

mates_so : (rs : List (List ℕ)) (u v n h m : ℕ) → mates rs u v n h m ≡ true → Mate rs u v h m
unfolding mates
mates_so rs u v zero h m t = absurd (false≢true t)
mates_so rs u v (suc n) h m t =
    let a = has_at (lowest (besides rs u v h) (4 * length rs)) (λ g. (opens rs g && eqb g m) || has (opposite rs g) (λ o. mates rs u v n o m)) t in
    let g = a.0 in
    let l = lowest_some (besides rs u v h) (4 * length rs) g a.1 in
    let b = besides_so rs u v h g l.1 in
    ⊎_elim
    (λ p. let q = and_parts (opens rs g) _ p in subst (Mate rs u v h) (eqb-true g m q.1) (arrives b (opens_so rs g q.0)))
    (λ p. let o = has_at (opposite rs g) (λ o. mates rs u v n o m) p in crosses b (opposite_joined rs g o.0 l.0 o.1) (mates_so rs u v n o.0 m o.2))
    (or_cases (opens rs g && eqb g m) _ a.2)

-- m is the mate of the open half-face h at its edge place e, and there the edge has the place d
unfoldable pub mated : List (List ℕ) → ℕ → ℕ → ℕ → ℕ → Bool
mated rs h e m d =
    let a = reads rs h in
    (opens rs h && (ltb e 3 && ltb d 3)) && (mates rs (start a e) (end a e) (length rs) h m && edge_at (reads rs m) d (start a e) (end a e))

pub mated_so : (rs : List (List ℕ)) (h e m d : ℕ) → mated rs h e m d ≡ true → OnSkin rs h × Mated rs h e m d
unfolding mated
mated_so rs h e m d t =
    let r = reads rs h in
    let a = and_parts (opens rs h && (ltb e 3 && ltb d 3)) _ t in
    let b = and_parts (opens rs h) _ a.0 in
    let k = and_parts (ltb e 3) _ b.1 in
    let f = and_parts (mates rs (start r e) (end r e) (length rs) h m) _ a.1 in (
      opens_so rs h b.0,
      record {
        from = start r e;
        to = end r e;
        here = runs_own r e (ltb-true e 3 k.0);
        mate = mates_so rs (start r e) (end r e) (length rs) h m f.0;
        there = edge_so (reads rs m) d (start r e) (end r e) (ltb-true d 3 k.1) f.1;
      },
    )
