-- What stands where in a list that rises, before and after an entry is put into it.
use Rattle.std.proofs.Common.{◌≡◌, ℕ, zero, suc, ◌+◌, ◌<◌, ◌≤◌, true, ◌⊎◌, List, [], ◌∷◌, length, get_or, set, Some, None, Option, Ok, Err, Result, Ordering, Less, Equal, Greater, sym, refl, ap, ◌∙◌, subst, inl, inr, ⊎_elim, suc-le-suc, zero-le, le_of_suc-le-suc, not-suc-le-zero, le_of_lt, eq-or-lt_of_le, arith}
use Rattle.std.specs.Ordering.{ordering_reverse, is_lt}
use Rattle.std.specs.List.{insert}
use Rattle.std.specs.Result.{result_ok}
use Rattle.index.specs.declared.entry.Entry.{Entry}
use Rattle.index.specs.Entries.{Rising, put_in, half_face_of}
use Rattle.index.specs.Search.{LessBefore, GreaterFrom, Sought}
use Rattle.index.specs.Orders.{TotalOrder}
use Rattle.index.specs.Total.{equal_itself}

is_less : (o : Ordering) → is_lt o ≡ true → o ≡ Less
is_less Less h = refl
is_less Equal h = cc
is_less Greater h = cc

one_of_three : (o : Ordering) → (o ≡ Less) ⊎ ((o ≡ Equal) ⊎ (o ≡ Greater))
one_of_three Less = inl refl
one_of_three Equal = inr (inl refl)
one_of_three Greater = inr (inr refl)

-- the place of the key k in the list, or none where no entry has it
abbrev pub LooksUp : {K : Type 0} → (K → K → Ordering) → K → List (Entry K) → Option ℕ → Type 0
LooksUp order k es (Some i) = (i < length es) × ((d : Entry _) → half_face_of order k es ≡ Some (get_or es i d).half_face)
LooksUp order k es None = half_face_of order k es ≡ None

module _ {K : Type 0} {order : K → K → Ordering} (total : TotalOrder order) where
  -- ---- the order of any two places
  pub rising_apart : (es : List (Entry K)) → Rising order es → (i j : ℕ) (d : Entry K) → i < j → j < length es → order (get_or es i d).key (get_or es j d).key ≡ Less
  rising_apart es r i zero d l t = absurd (not-suc-le-zero l)
  rising_apart es r i (suc j) d l t =
      let next : order (get_or es j d).key (get_or es (suc j) d).key ≡ Less = is_less _ (r j d t) in
      ⊎_elim
      (λ (e : i ≡ j). subst (λ (z : ℕ). order (get_or es z d).key (get_or es (suc j) d).key ≡ Less) (sym e) next)
      (λ (lt : i < j). total.chained _ _ _ (rising_apart es r i j d lt (le_of_lt t)) next)
      (eq-or-lt_of_le (le_of_suc-le-suc l))

  -- what stands before an entry of the key k is less than k
  pub less_before : (k : K) (es : List (Entry K)) (i : ℕ) → Rising order es → i < length es
      → ((d : Entry K) → order (get_or es i d).key k ≡ Equal) → LessBefore order k es i
  less_before k es i r h q j d l = subst (λ (z : K). order (get_or es j d).key z ≡ Less) (total.equal_only _ k (q d)) (rising_apart es r j i d l h)

  -- one turn of the search by halves, up
  pub less_up_to : (k : K) (es : List (Entry K)) (m : ℕ) → Rising order es → m < length es
      → ((d : Entry K) → order (get_or es m d).key k ≡ Less) → LessBefore order k es (m + 1)
  less_up_to k es m r h q j d l =
      let le : j ≤ m = omega arith in
      ⊎_elim
      (λ (e : j ≡ m). subst (λ (z : ℕ). order (get_or es z d).key k ≡ Less) (sym e) (q d))
      (λ (lt : j < m). total.chained _ _ k (rising_apart es r j m d lt h) (q d))
      (eq-or-lt_of_le le)

  -- and down
  pub greater_from : (k : K) (es : List (Entry K)) (m : ℕ) → Rising order es → m < length es
      → ((d : Entry K) → order (get_or es m d).key k ≡ Greater) → GreaterFrom order k es m
  greater_from k es m r h q j d l t =
      ⊎_elim
      (λ (e : m ≡ j). subst (λ (z : ℕ). order (get_or es z d).key k ≡ Greater) e (q d))
      (λ (lt : m < j).
      let less : order k (get_or es m d).key ≡ Less = total.exchanged _ k ∙ ap ordering_reverse (q d) in
      total.exchanged k _ ∙ ap ordering_reverse (total.chained k _ _ less (rising_apart es r m j d lt t)))
      (eq-or-lt_of_le l)

  less_tail : (k : K) (x : Entry K) (xs : List (Entry K)) (p : ℕ) → LessBefore order k (x ∷ xs) (suc p) → LessBefore order k xs p
  less_tail k x xs p b i d h = b (suc i) d (suc-le-suc h)

  greater_tail : (k : K) (x : Entry K) (xs : List (Entry K)) (p : ℕ) → GreaterFrom order k (x ∷ xs) (suc p) → GreaterFrom order k xs p
  greater_tail k x xs p b i d h l = b (suc i) d (suc-le-suc h) (suc-le-suc l)

  greater_rest : (k : K) (x : Entry K) (xs : List (Entry K)) → GreaterFrom order k (x ∷ xs) zero → GreaterFrom order k xs zero
  greater_rest k x xs b i d h l = b (suc i) d zero-le (suc-le-suc l)

  -- ---- an entry of an equal key gives way
  pub put_at : (e : Entry K) (es : List (Entry K)) (i : ℕ) → i < length es → LessBefore order e.key es i
      → ((d : Entry K) → order (get_or es i d).key e.key ≡ Equal) → put_in order e es ≡ set es i e
  put_at e [] i h b q = absurd (not-suc-le-zero h)
  put_at e (x ∷ xs) zero h b q = rw (q x, put_in)
  put_at e (x ∷ xs) (suc i) h b q =
      rw (b 0 x (suc-le-suc zero-le), put_in) (ap (λ (t : List (Entry K)). x ∷ t) (put_at e xs i (le_of_suc-le-suc h) (less_tail e.key x xs i b) q))

  -- a new key goes between the lesser and the greater
  pub put_between : (e : Entry K) (es : List (Entry K)) (p : ℕ) → p ≤ length es → LessBefore order e.key es p → GreaterFrom order e.key es p
      → put_in order e es ≡ insert es p e
  put_between e [] zero h b a = refl
  put_between e [] (suc p) h b a = absurd (not-suc-le-zero h)
  put_between e (x ∷ xs) zero h b a = rw (a 0 x zero-le (suc-le-suc zero-le), put_in)
  put_between e (x ∷ xs) (suc p) h b a =
      rw (b 0 x (suc-le-suc zero-le), put_in) (ap (λ (t : List (Entry K)). x ∷ t) (put_between e xs p (le_of_suc-le-suc h) (less_tail e.key x xs p b) (greater_tail e.key x xs p a)))

  -- ---- the half-face beside a key that is there, and beside one that is not
  pub found_at : (k : K) (es : List (Entry K)) (i : ℕ) (d : Entry K) → i < length es → LessBefore order k es i
      → ((d : Entry K) → order (get_or es i d).key k ≡ Equal) → half_face_of order k es ≡ Some (get_or es i d).half_face
  found_at k [] i d h b q = absurd (not-suc-le-zero h)
  found_at k (x ∷ xs) zero d h b q = rw (q x, half_face_of)
  found_at k (x ∷ xs) (suc i) d h b q = rw (b 0 x (suc-le-suc zero-le), half_face_of) (found_at k xs i d (le_of_suc-le-suc h) (less_tail k x xs i b) q)

  none_greater : (k : K) (es : List (Entry K)) → GreaterFrom order k es zero → half_face_of order k es ≡ None
  none_greater k [] a = refl
  none_greater k (x ∷ xs) a = rw (a 0 x zero-le (suc-le-suc zero-le), half_face_of) (none_greater k xs (greater_rest k x xs a))

  pub none_between : (k : K) (es : List (Entry K)) (p : ℕ) → LessBefore order k es p → GreaterFrom order k es p → half_face_of order k es ≡ None
  none_between k es zero b a = none_greater k es a
  none_between k [] (suc p) b a = refl
  none_between k (x ∷ xs) (suc p) b a = rw (b 0 x (suc-le-suc zero-le), half_face_of) (none_between k xs p (less_tail k x xs p b) (greater_tail k x xs p a))

  -- the half-face at the place that is answered, if there is one, is that beside the key
  pub looked_up : (k : K) (es : List (Entry K)) → Rising order es → (r : Result ℕ ℕ) → Sought order k es r → LooksUp order k es (result_ok r)
  looked_up k es rising (Ok i) s = (s.0, λ d. found_at k es i d s.0 (less_before k es i rising s.0 s.1) s.1)
  looked_up k es rising (Err p) s = none_between k es p s.1 s.2

  -- ---- a list still rises with the entry in it
  -- k is less than the first key
  abbrev Ahead : K → List (Entry K) → Type 0
  Ahead k es = (d : Entry K) → 0 < length es → is_lt (order k (get_or es 0 d).key) ≡ true

  rising_cons : (x : Entry K) (xs : List (Entry K)) → Ahead x.key xs → Rising order xs → Rising order (x ∷ xs)
  rising_cons x xs a r zero d t = a d (le_of_suc-le-suc t)
  rising_cons x xs a r (suc i) d t = r i d (le_of_suc-le-suc t)

  ahead_put : (k : K) (e : Entry K) (es : List (Entry K)) → order k e.key ≡ Less → Ahead k es → Ahead k (put_in order e es)
  ahead_put k e [] l a = λ d t. ap is_lt l
  ahead_put k e (x ∷ xs) l a =
      ⊎_elim (λ (q : order x.key e.key ≡ Less). rw (q, put_in) (λ d t. a x (suc-le-suc zero-le)))
      (⊎_elim (λ (q : order x.key e.key ≡ Equal). rw (q, put_in) (λ d t. ap is_lt l))
      (λ (q : order x.key e.key ≡ Greater). rw (q, put_in) (λ d t. ap is_lt l)))
      (one_of_three (order x.key e.key))

  pub rising_put : (e : Entry K) (es : List (Entry K)) → Rising order es → Rising order (put_in order e es)
  rising_put e [] r = λ i d t. absurd (not-suc-le-zero (le_of_suc-le-suc t))
  rising_put e (x ∷ xs) r =
      let ahead : Ahead x.key xs = λ d t. r zero d (suc-le-suc t) in
      let tail : Rising order xs = λ i d t. r (suc i) d (suc-le-suc t) in
      ⊎_elim (λ (q : order x.key e.key ≡ Less). rw (q, put_in) (rising_cons x (put_in order e xs) (ahead_put x.key e xs q ahead) (rising_put e xs tail)))
      (⊎_elim (λ (q : order x.key e.key ≡ Equal). rw (q, put_in) (rising_cons e xs (subst (λ (z : K). Ahead z xs) (total.equal_only _ _ q) ahead) tail))
      (λ (q : order x.key e.key ≡ Greater). rw (q, put_in) (rising_cons e (x ∷ xs) (λ d t. ap is_lt (total.exchanged x.key e.key ∙ ap ordering_reverse q)) r)))
      (one_of_three (order x.key e.key))

  -- ---- what is found after a put
  found_first : (k : K) (x : Entry K) (xs : List (Entry K)) → order x.key k ≡ Equal → half_face_of order k (x ∷ xs) ≡ Some x.half_face
  found_first k x xs q = rw (q, half_face_of)

  passed : (k : K) (x : Entry K) (xs : List (Entry K)) → (order x.key k ≡ Equal → ⊥) → half_face_of order k (x ∷ xs) ≡ half_face_of order k xs
  passed k x xs n =
      ⊎_elim (λ (q : order x.key k ≡ Less). rw (q, half_face_of))
      (⊎_elim (λ (q : order x.key k ≡ Equal). absurd (n q)) (λ (q : order x.key k ≡ Greater). rw (q, half_face_of)))
      (one_of_three (order x.key k))

  pub found_put : (e : Entry K) (es : List (Entry K)) → half_face_of order e.key (put_in order e es) ≡ Some e.half_face
  found_put e [] = found_first e.key e [] (equal_itself total e.key)
  found_put e (x ∷ xs) =
      let here = equal_itself total e.key in
      ⊎_elim (λ (q : order x.key e.key ≡ Less). rw (q, put_in) (rw (q, half_face_of) (found_put e xs)))
      (⊎_elim (λ (q : order x.key e.key ≡ Equal). rw (q, put_in) (found_first e.key e xs here))
      (λ (q : order x.key e.key ≡ Greater). rw (q, put_in) (found_first e.key e (x ∷ xs) here)))
      (one_of_three (order x.key e.key))

  pub found_other : (k : K) (e : Entry K) (es : List (Entry K)) → (k ≡ e.key → ⊥) → half_face_of order k (put_in order e es) ≡ half_face_of order k es
  found_other k e [] n = passed k e [] (λ q. n (sym (total.equal_only e.key k q)))
  found_other k e (x ∷ xs) n =
      let not-e : order e.key k ≡ Equal → ⊥ = λ q. n (sym (total.equal_only e.key k q)) in
      ⊎_elim (λ (q : order x.key e.key ≡ Less). rw (q, put_in) (behind (found_other k e xs n)))
      (⊎_elim
      (λ (q : order x.key e.key ≡ Equal).
      let not_x : order x.key k ≡ Equal → ⊥ = λ p. not-e (subst (λ (z : K). order z k ≡ Equal) (total.equal_only _ _ q) p) in
      rw (q, put_in) (passed k e xs not-e ∙ sym (passed k x xs not_x)))
      (λ (q : order x.key e.key ≡ Greater). rw (q, put_in) (passed k e (x ∷ xs) not-e)))
      (one_of_three (order x.key e.key))
    where
      behind : half_face_of order k (put_in order e xs) ≡ half_face_of order k xs → half_face_of order k (x ∷ put_in order e xs) ≡ half_face_of order k (x ∷ xs)
      behind h =
          ⊎_elim (λ (q : order x.key k ≡ Less). rw (q, half_face_of) h)
          (⊎_elim (λ (q : order x.key k ≡ Equal). rw (q, half_face_of)) (λ (q : order x.key k ≡ Greater). rw (q, half_face_of) h))
          (one_of_three (order x.key k))
