-- What a put leaves: the three ways it goes.
use Rattle.std.proofs.Common.{◌≡◌, ℕ, zero, suc, ◌+◌, ◌-◌, ◌<◌, ◌≤◌, List, [], ◌∷◌, ◌++◌, length, take, drop, set, Some, None, Ok, Err, Ordering, sym, refl, ap, ◌∙◌, subst, arith, length-drop, length-set, length-take}
use Rattle.std.specs.List.{insert, copy_within}
use Rattle.std.proofs.lemmas.List.{append_assoc, take_at, drop_at, drop-drop, drop-take, drop_all, drop-set-lt, length-append, length-take-le, set-append_left, take-take, take_more_set}
use Rattle.std.proofs.lemmas.List.Edits.{length-insert}
use Rattle.refusal.specs.declared.Refusal.{Refusal}
use Rattle.refusal.specs.declared.Refusal.TheVariants.{ListTooShort}
use Rattle.refusal.specs.Numbers.{number_of}
use Rattle.refusal.specs.Causes.{First, NoCause}
use Rattle.index.specs.declared.entry.Entry.{Entry}
use Rattle.index.specs.Entries.{Rising, put_in, half_face_of}
use Rattle.index.specs.Held.{Held, parted, PutCause, full, Stored}
use Rattle.index.specs.Search.{Sought}
use Rattle.index.specs.Orders.{TotalOrder}
use Rattle.index.proofs.Places.{less_before, put_at, put_between, found_at, none_between, rising_put, found_put, found_other}

-- ---- a write among the places
take_set : {X : Type 0} (n : ℕ) (xs : List X) (i : ℕ) (x : X) → take n (set xs i x) ≡ set (take n xs) i x
take_set zero [] i x = refl
take_set zero (y ∷ ys) i x = refl
take_set (suc n) [] i x = refl
take_set (suc n) (y ∷ ys) zero x = refl
take_set (suc n) (y ∷ ys) (suc i) x = ap (λ (t : List _). y ∷ t) (take_set n ys i x)

-- the entries from the place p up to n moved on by one place, and x written at p, however the two places of the move are told
pub inserted : {X : Type 0} (ps : List X) (p n : ℕ) (x : X) {from to : ℕ} → from ≡ p → to ≡ p + 1 → p ≤ n → n < length ps
    → set (copy_within ps from n to) p x ≡ insert (take n ps) p x ++ drop (n + 1) ps
inserted ps p n x {from} {to} same_from same_to h l =
    let m : ℕ = n - p in
    let q : p + m ≡ n = omega arith in
    let e : p + 1 + m ≡ n + 1 = omega arith in
    let lt : p < length ps = omega arith in
    let first : length (take (p + 1) ps) ≡ p + 1 = length-take-le (p + 1) ps (omega arith) in
    let moved : List _ = take m (drop p ps) in
    let rest : List _ = drop (p + 1 + m) ps in
    let here : p < length (take (p + 1) ps) = omega arith in
    let here' : p < length (take (p + 1) ps ++ moved) = omega (arith, length-append (take (p + 1) ps) moved) in
    let before : take p (take n ps) ≡ take p ps = take-take p n ps h in
    let behind : drop p (take n ps) ≡ moved = subst (λ (z : ℕ). drop p (take z ps) ≡ moved) q (drop-take p m ps) in
    ap (λ (z : ℕ). set (copy_within ps z n to) p x) same_from
    ∙ ap (λ (z : ℕ). set (copy_within ps p n z) p x) same_to
    ∙ set-append_left (take (p + 1) ps ++ moved) rest p x here'
    ∙ ap (λ (z : List _). z ++ rest) (set-append_left (take (p + 1) ps) moved p x here)
    ∙ ap (λ (z : List _). z ++ moved ++ rest) (sym (take_set (p + 1) ps p x) ∙ take_more_set ps p x lt)
    ∙ ap (λ (z : List _). z ++ rest) (append_assoc (take p ps) (x ∷ []) moved)
    ∙ ap (λ (z : ℕ). take p ps ++ x ∷ moved ++ drop z ps) e
    ∙ ap (λ (z : List _). z ++ x ∷ moved ++ drop (n + 1) ps) (sym before)
    ∙ ap (λ (z : List _). take p (take n ps) ++ x ∷ z ++ drop (n + 1) ps) (sym behind)

module _ {K : Type 0} {order : K → K → Ordering} (total : TotalOrder order) where
  stored : (e : Entry K) (before after : Held K) → Rising order before.entries → after.entries ≡ put_in order e before.entries
      → after.free ≡ drop (length after.entries - length before.entries) before.free → Stored order e before after
  stored e before after r q f = record {
    entries = q;
    free = f;
    rising = subst (λ (es : List (Entry K)). Rising order es) (sym q) (rising_put total e before.entries r);
    put = ap (half_face_of order e.key) q ∙ found_put total e before.entries;
    others = λ k n. ap (half_face_of order k) q ∙ found_other total k e before.entries n;
  }

  module _ (e : Entry K) (len : ℕ) (ps : List (Entry K)) (rising : Rising order (take len ps)) where
    abbrev before : Held K
    before = parted len ps

    not_none : (h : ℕ) → half_face_of order e.key (take len ps) ≡ Some h → NoCause (PutCause order e before)
    not_none h q c (full n f) = let z : ◌≡◌ {A = ℕ} 0 1 = cc in absurd (omega arith)

    not_full : len < length ps → NoCause (PutCause order e before)
    not_full room c (full n f) = omega (arith, ap length f, length-drop len ps)

    none_earlier : (d : Refusal) → number_of d < number_of ListTooShort → PutCause order e before d → ⊥
    none_earlier d l (full n f) = omega arith

    -- the key is there
    pub replaced : (i : ℕ) → Sought order e.key (take len ps) (Ok i)
        → NoCause (PutCause order e before) × Stored order e before (parted len (set ps i e))
    replaced i s =
        let h = s.0 in
        let q = s.1 in
        let less = less_before total e.key (take len ps) i rising h q in
        let lt : i < len = omega (arith, length-take len ps) in
        let same : length (take len (set ps i e)) - length (take len ps) ≡ 0 = simp (length-take, length-set) (omega arith) in (
          not_none _ (found_at total e.key (take len ps) i e h less q),
          stored e before (parted len (set ps i e)) rising (take_set len ps i e ∙ sym (put_at total e (take len ps) i h less q))
              (drop-set-lt len ps i e lt ∙ sym (ap (λ (m : ℕ). drop m (drop len ps)) same)),
        )

    -- it is new, and a place is free
    pub put_new : (p : ℕ) → len < length ps → Sought order e.key (take len ps) (Err p)
        → (after : List (Entry K)) → after ≡ insert (take len ps) p e ++ drop (len + 1) ps
        → NoCause (PutCause order e before) × Stored order e before (parted (len + 1) after)
    put_new p room s after q =
        let h = s.0 in
        let ln : length (take len ps) ≡ len = simp length-take (omega arith) in
        let li : length (insert (take len ps) p e) ≡ len + 1 = length-insert (take len ps) p e h ∙ ap (λ (m : ℕ). m + 1) ln in
        let front : take (len + 1) after ≡ insert (take len ps) p e = ap (take (len + 1)) q ∙ take_at (insert (take len ps) p e) (drop (len + 1) ps) (len + 1) li in
        let rest : drop (len + 1) after ≡ drop (len + 1) ps = ap (drop (len + 1)) q ∙ drop_at (insert (take len ps) p e) (drop (len + 1) ps) (len + 1) li in
        let one : length (take (len + 1) after) - length (take len ps) ≡ 1 = omega (arith, ap length front) in (
          not_full room,
          stored e before (parted (len + 1) after) rising (front ∙ sym (put_between total e (take len ps) p h s.1 s.2))
              (rest ∙ sym (drop-drop 1 len ps) ∙ sym (ap (λ (m : ℕ). drop m (drop len ps)) one)),
        )

    -- it is new, and no place is free
    pub too_short : (p : ℕ) → length ps ≤ len → Sought order e.key (take len ps) (Err p)
        → First (PutCause order e before) ListTooShort
    too_short p no_room s = record {
      applies = full (none_between total e.key (take len ps) p s.1 s.2) (drop_all len ps no_room);
      none_before = none_earlier;
    }

-- ---- what a refusal tells: the only one there is
pub why_refused : {K : Type 0} {order : K → K → Ordering} {e : Entry K} {h : Held K} (c : Refusal) → PutCause order e h c
    → (c ≡ ListTooShort) × (half_face_of order e.key h.entries ≡ None) × (h.free ≡ [])
why_refused c (full n f) = (refl, n, f)
