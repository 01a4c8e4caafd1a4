-- In a list that rises, an entry stands exactly where its key is looked up.
use Rattle.std.proofs.Common.{◌≡◌, ℕ, suc, ◌+◌, ◌<◌, ◌≤◌, true, false, cond, ◌⊎◌, List, [], ◌∷◌, ◌++◌, length, get_or, is_some, Some, None, Option, Ordering, Less, Equal, Greater, sym, refl, ap, ◌∙◌, subst, inl, inr, ⊎_elim, suc-le-suc, zero-le, arith}
use Rattle.std.specs.Ordering.{is_eq}
use Rattle.std.proofs.lemmas.List.{get_or_default}
use Rattle.std.proofs.lemmas.Bool.{cases_lt, cases_order}
use Rattle.rules.proofs.Crowding.{crowded}
use Rattle.rules.proofs.Webbed.{cases_option}
use Rattle.index.specs.declared.entry.Entry.{Entry}
use Rattle.index.specs.Orders.{TotalOrder}
use Rattle.index.specs.Entries.{Rising, put_in, half_face_of}
use Rattle.index.specs.Search.{LessBefore}
use Rattle.index.specs.Total.{equal_itself}
use Rattle.index.proofs.Places.{rising_apart, less_before, found_at}
use Rattle.indexes.specs.Lists.{OneEach}
use Rattle.indexes.specs.Gathered.{Finds, Gathered}

pub none_from : (o : Option ℕ) → is_some o ≡ false → o ≡ None
none_from None e = refl
none_from (Some x) e = cc

pub some_from : (o : Option ℕ) → is_some o ≡ true → (x : ℕ) × (o ≡ Some x)
some_from None e = let z : ◌≡◌ {A = ℕ} 0 1 = cc in absurd (omega arith)
some_from (Some x) e = (x, refl)

equal_or_not : (o : Ordering) → (o ≡ Equal) ⊎ (is_eq o ≡ is_eq Less)
equal_or_not Less = inr refl
equal_or_not Equal = inl refl
equal_or_not Greater = inr refl

module _ {K : Type 0} {order : K → K → Ordering} (total : TotalOrder order) where
  pub same_or_not : (k q : K) → (k ≡ q) ⊎ (k ≡ q → ⊥)
  same_or_not k q =
      ⊎_elim
      (λ (e : order k q ≡ Equal). inl (total.equal_only k q e))
      (λ (n : is_eq (order k q) ≡ is_eq Less). inr (λ (e : k ≡ q).
      let here : order k q ≡ Equal = ap (order k) (sym e) ∙ equal_itself total k in
      differ (sym n ∙ ap is_eq here)))
      (equal_or_not (order k q))
    where
      differ : is_eq Less ≡ is_eq Equal → ⊥
      differ h = let z : ◌≡◌ {A = ℕ} 0 1 = cc in absurd (omega arith)

  key_same : (es : List (Entry K)) (i : ℕ) (d e : Entry K) → i < length es → order (get_or es i d).key (get_or es i e).key ≡ Equal
  key_same es i d e l = ap (λ (x : Entry K). order x.key (get_or es i e).key) (get_or_default es i d e l) ∙ equal_itself total (get_or es i e).key

  pub found : (es : List (Entry K)) → Rising order es → (i : ℕ) (d : Entry K) → i < length es → half_face_of order (get_or es i d).key es ≡ Some (get_or es i d).half_face
  found es r i d l =
      found_at total (get_or es i d).key es i d l
      (less_before total (get_or es i d).key es i r l (λ e. key_same es i e d l))
      (λ e. key_same es i e d l)

  pub place : (k : K) (es : List (Entry K)) (x : ℕ) → half_face_of order k es ≡ Some x → (i : ℕ) × (i < length es) × ((d : Entry K) → (get_or es i d).key ≡ k)
  place k [] x h = let z : ◌≡◌ {A = ℕ} 0 1 = cc in absurd (omega arith)
  place k (e ∷ es) x h =
      ⊎_elim
      (λ (q : order e.key k ≡ Equal). (0, suc-le-suc zero-le, λ d. total.equal_only e.key k q))
      (λ (q : is_eq (order e.key k) ≡ is_eq Less).
      let w = place k es x (sym (ap (λ (b : _). cond b (Some e.half_face) (half_face_of order k es)) q) ∙ h) in
      (suc w.0, suc-le-suc w.1, w.2))
      (equal_or_not (order e.key k))

  -- an entry stands in one place only
  pub one_place : (es : List (Entry K)) → Rising order es → (i j : ℕ) (d : Entry K) → i < length es → j < length es → (get_or es i d).key ≡ (get_or es j d).key → i ≡ j
  one_place es r i j d l m e =
      ⊎_elim (λ (p : i ≡ j). p)
      (⊎_elim (λ (p : i < j). absurd (apart i j p m e)) (λ (p : j < i). absurd (apart j i p l (sym e))))
      (cases_order i j)
    where
      apart : (i j : ℕ) → i < j → j < length es → (get_or es i d).key ≡ (get_or es j d).key → ⊥
      apart i j p m e =
          let less : order (get_or es i d).key (get_or es j d).key ≡ Less = rising_apart total es r i j d p m in
          let same : order (get_or es i d).key (get_or es j d).key ≡ Equal = ap (order (get_or es i d).key) (sym e) ∙ equal_itself total (get_or es i d).key in
          let q : Less ≡ Equal = sym less ∙ same in
          let z : ◌≡◌ {A = ℕ} 0 1 = cc in omega arith

  -- a put takes one place more at most
  pub put_length : (e : Entry K) (es : List (Entry K)) → length (put_in order e es) ≤ length es + 1
  put_length e [] = omega arith
  put_length e (x ∷ xs) = by (put_length e xs) (order x.key e.key)
    where
      by : length (put_in order e xs) ≤ length xs + 1 → (o : Ordering) → length {A = Entry K} (elim o [ Less ↦ x ∷ put_in order e xs | Equal ↦ e ∷ xs | Greater ↦ e ∷ x ∷ xs ]) ≤ length (x ∷ xs) + 1
      by l Less = omega arith
      by l Equal = omega arith
      by l Greater = omega arith

  -- an entry behind all others
  pub put_last : (e : Entry K) (es : List (Entry K)) → LessBefore order e.key es (length es) → put_in order e es ≡ es ++ e ∷ []
  put_last e [] b = refl
  put_last e (x ∷ xs) b =
      rw (b 0 x (suc-le-suc zero-le), put_in) (ap (λ (t : List (Entry K)). x ∷ t) (put_last e xs (λ i d h. b (suc i) d (suc-le-suc h))))

  module _ {Has : K → ℕ → Type 0} {Rather : ℕ → ℕ → Type 0} where
    pub one_each : (es : List (Entry K)) → Rising order es → Gathered Has Rather order es → OneEach Has Rather order es
    one_each es r g = record {
      rising = r;
      sound = λ i d l. subst (Finds Has Rather (get_or es i d).key) (found es r i d l) (g (get_or es i d).key);
      whole = λ k h has. ⊎_elim
          (λ (n : half_face_of order k es ≡ None). absurd (subst (Finds Has Rather k) n (g k) h has))
          (λ (s : (x : ℕ) × (half_face_of order k es ≡ Some x)). place k es s.0 s.1)
          (cases_option (half_face_of order k es));
    }

    -- two such lists are of one length
    pub no_longer : (es fs : List (Entry K)) → OneEach Has Rather order es → OneEach Has Rather order fs → length es ≤ length fs
    no_longer [] fs a b = zero-le
    no_longer (e ∷ es) fs a b =
        ⊎_elim
        (λ (l : length fs < length (e ∷ es)). absurd (crowded (length fs) (λ i. (at i).0)
        (λ i m. ((at i).1 (omega arith)).0)
        (λ i j m n q. let mi : i < length (e ∷ es) = omega arith in let mj : j < length (e ∷ es) = omega arith in
        one_place (e ∷ es) a.rising i j e mi mj
        (sym ((at i).1 mi).1 ∙ ap (λ (z : ℕ). (get_or fs z e).key) q ∙ ((at j).1 mj).1))))
        (λ (l : length (e ∷ es) ≤ length fs). l)
        (cases_lt (length fs) (length (e ∷ es)))
      where
        at : (i : ℕ) → (x : ℕ) × (i < length (e ∷ es) → (x < length fs) × ((get_or fs x e).key ≡ (get_or (e ∷ es) i e).key))
        at i =
            ⊎_elim
            (λ (m : i < length (e ∷ es)). let w = b.whole (get_or (e ∷ es) i e).key (get_or (e ∷ es) i e).half_face (a.sound i e m).has in (w.0, λ q. (w.1, w.2 e)))
            (λ (m : length (e ∷ es) ≤ i). (0, λ q. absurd (omega arith)))
            (cases_lt i (length (e ∷ es)))
