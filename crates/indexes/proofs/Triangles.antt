-- Triangles by their three vertices in rising order.
use Rattle.std.proofs.Common.{◌≡◌, ℕ, ◌+◌, ◌<◌, ◌≤◌, ◌⊎◌, List, length, get_or, Some, None, sym, refl, ap, ◌∙◌, subst, inl, inr, ⊎_elim, arith}
use Rattle.std.proofs.lemmas.Bool.{cases_lt}
use Rattle.rules.specs.Readings.{Reading, On, listed}
use Rattle.index.specs.declared.entry.Entry.{Entry}
use Rattle.index.specs.declared.keys.Triple.{Triple}
use Rattle.index.specs.Entries.{half_face_of}
use Rattle.index.specs.Keys.{triple_order}
use Rattle.index.specs.Held.{Held, Stored}
use Rattle.indexes.specs.Faces.{triangle, Sorts, OnTriangle, FaceEntries}
use Rattle.indexes.specs.Gathered.{FacesBefore, Before, Offered}
use Rattle.index.specs.KeyLemmas.{triple_total}
use Rattle.indexes.proofs.Lookups.{no_longer}
use Rattle.indexes.proofs.Offers.{Added, offered, gathered_as}

module _ {a : Reading} where
  at_least : (k : Triple) → Sorts a k → (v : ℕ) → On v (triangle k) → k.first ≤ v
  at_least k s v = let l = s.low in let m = s.high in ⊎_elim (λ (e : v ≡ k.first). omega arith) (⊎_elim (λ (e : v ≡ k.second). omega arith) (λ (e : v ≡ k.third). omega arith))

  at_most : (k : Triple) → Sorts a k → (v : ℕ) → On v (triangle k) → v ≤ k.third
  at_most k s v = let l = s.low in let m = s.high in ⊎_elim (λ (e : v ≡ k.first). omega arith) (⊎_elim (λ (e : v ≡ k.second). omega arith) (λ (e : v ≡ k.third). omega arith))

  across : (k q : Triple) → Sorts a k → Sorts a q → (v : ℕ) → On v (triangle k) → On v (triangle q)
  across k q s t v o = (t.same v).1 ((s.same v).0 o)

  -- there is one such triple only
  pub one_triple : (k q : Triple) → Sorts a k → Sorts a q → k ≡ q
  one_triple k q s t =
      let first : k.first ≡ q.first = omega (arith, at_least q t k.first (across k q s t k.first (inl refl)), at_least k s q.first (across q k t s q.first (inl refl))) in
      let third : k.third ≡ q.third = omega (arith, at_most q t k.third (across k q s t k.third (inr (inr refl))), at_most k s q.third (across q k t s q.third (inr (inr refl)))) in
      let l = s.low in let m = s.high in
      let second : k.second ≡ q.second =
      ⊎_elim (λ (e : k.second ≡ q.first). absurd (omega arith))
      (⊎_elim (λ (e : k.second ≡ q.second). e) (λ (e : k.second ≡ q.third). absurd (omega arith)))
      (across k q s t k.second (inr (inl refl))) in
      ap (λ (x : ℕ). record { first = x; second = k.second; third = k.third }) first
      ∙ ap (λ (x : ℕ). record { first = q.first; second = x; third = k.third }) second
      ∙ ap (λ (x : ℕ). record { first = q.first; second = q.second; third = x }) third

-- the reading as a list of three numbers
pub sorts_as : (a : Reading) (vs : List ℕ) (k : Triple) → vs ≡ listed a → Sorts (record { p = get_or vs 0 0; q = get_or vs 1 0; r = get_or vs 2 0 }) k → Sorts a k
sorts_as a vs k e s = subst (λ (z : List ℕ). Sorts (record { p = get_or z 0 0; q = get_or z 1 0; r = get_or z 2 0 }) k) e s

module _ (rs : List (List ℕ)) (k : Triple) (h : ℕ) (on : OnTriangle rs k h) where
  -- half-face h is passed
  passed : (es fs : List (Entry Triple)) → FacesBefore rs h es → Offered triple_order (λ x g. x ≤ g) k h es fs → FacesBefore rs (h + 1) fs
  passed es fs a o =
      gathered_as triple_total (Added triple_total (Before (OnTriangle rs) h) (λ x g. x ≤ g) itself chain k h) (Before (OnTriangle rs) (h + 1)) (λ x g. x ≤ g) to from fs
      (offered triple_total (Before (OnTriangle rs) h) (λ x g. x ≤ g) itself chain k h es fs a o)
    where
      itself : (x : ℕ) → x ≤ x
      itself x = omega arith

      chain : (x y z : ℕ) → x ≤ y → y ≤ z → x ≤ z
      chain x y z p q = omega arith

      to : (q : Triple) (g : ℕ) → Before (OnTriangle rs) h q g ⊎ ((q ≡ k) × (g ≡ h)) → Before (OnTriangle rs) (h + 1) q g
      to q g =
          ⊎_elim
          (λ (p : Before (OnTriangle rs) h q g). let l = p.1 in (p.0, omega arith))
          (λ (p : (q ≡ k) × (g ≡ h)). let e = p.1 in (subst (λ (x : ℕ). OnTriangle rs q x) (sym p.1) (subst (λ (z : Triple). OnTriangle rs z h) (sym p.0) on), omega arith))

      from : (q : Triple) (g : ℕ) → Before (OnTriangle rs) (h + 1) q g → Before (OnTriangle rs) h q g ⊎ ((q ≡ k) × (g ≡ h))
      from q g p =
          let l = p.1 in
          ⊎_elim
          (λ (m : g < h). inl (p.0, m))
          (λ (m : h ≤ g). let e : g ≡ h = omega arith in inr (one_triple q k (subst (OnTriangle rs q) e p.0).1 on.1, e))
          (cases_lt g h)

  -- its triangle is new
  pub put_new : (before after : Held Triple) → FacesBefore rs h before.entries → half_face_of triple_order k before.entries ≡ None
      → Stored triple_order (record { key = k; half_face = h }) before after → FacesBefore rs (h + 1) after.entries
  put_new before after a n s = passed before.entries after.entries a (record { chosen = h; right = rw n refl; found = s.put; others = s.others })

  -- a lower half-face has it
  pub kept : (es : List (Entry Triple)) → FacesBefore rs h es → (x : ℕ) → half_face_of triple_order k es ≡ Some x
      → FacesBefore rs (h + 1) es
  kept es a x f =
      let low : x < h = (rw f at (a k)).has.1 in
      passed es es a (record { chosen = x; right = rw f (inl refl, omega arith, omega arith); found = f; others = λ q n. refl })

pub no_longer_faces : (rs : List (List ℕ)) (es fs : List (Entry Triple)) → FaceEntries rs es → FaceEntries rs fs → length es ≤ length fs
no_longer_faces rs es fs a b = no_longer triple_total es fs a.entries b.entries
