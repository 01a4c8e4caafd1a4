-- The numbers below n that pass a test, and lists in rising order.
use Rattle.std.proofs.Common.{◌≡◌, ℕ, zero, suc, ◌+◌, ◌<◌, ◌≤◌, Bool, true, false, List, [], ◌∷◌, ◌++◌, length, get_or, take, drop, set, sym, refl, ap, ◌∙◌, subst, ⊎_elim, add-one, arith}
use Rattle.std.proofs.lemmas.Bool.{cases_Bool, cases_lt, cases_eq, cases_order, cond-true, cond-false, both_ways}
use Rattle.std.proofs.lemmas.List.{length_push, get_or_push, get_or_append_left, take_more_set, drop-set-lt, drop-drop}
use Rattle.rules.specs.Listings.{Listing, Filled}
use Rattle.rules.specs.Tests.{picks}
use Rattle.rules.proofs.Crowding.{crowded}

pub picks_push : (f : ℕ → Bool) (n : ℕ) → f n ≡ true → picks f (n + 1) ≡ picks f n ++ n ∷ []
picks_push f n p = ap (picks f) (add-one n) ∙ cond-true (f n) (picks f n ++ n ∷ []) (picks f n) p

pub picks_skip : (f : ℕ → Bool) (n : ℕ) → f n ≡ false → picks f (n + 1) ≡ picks f n
picks_skip f n p = ap (picks f) (add-one n) ∙ cond-false (f n) (picks f n ++ n ∷ []) (picks f n) p

pub count_push : (f : ℕ → Bool) (n : ℕ) → f n ≡ true → length (picks f (n + 1)) ≡ length (picks f n) + 1
count_push f n p = ap length (picks_push f n p) ∙ length_push (picks f n) n

pub count_skip : (f : ℕ → Bool) (n : ℕ) → f n ≡ false → length (picks f (n + 1)) ≡ length (picks f n)
count_skip f n p = ap length (picks_skip f n p)

count_step : (f : ℕ → Bool) (n : ℕ) → length (picks f n) ≤ length (picks f (n + 1))
count_step f n = ⊎_elim (λ p. omega (arith, count_push f n p)) (λ p. omega (arith, count_skip f n p)) (cases_Bool (f n))

pub count_more : (f : ℕ → Bool) (n m : ℕ) → n ≤ m → length (picks f n) ≤ length (picks f m)
count_more f n zero l = let e : n ≡ 0 = omega arith in omega (arith, ap (λ (k : ℕ). length (picks f k)) e)
count_more f n (suc m) l =
    ⊎_elim
    (λ e. omega (arith, ap (λ (k : ℕ). length (picks f k)) e))
    (λ ne. omega (arith, count_more f n m (omega arith), count_step f m, ap (λ (k : ℕ). length (picks f k)) (add-one m)))
    (cases_eq n (suc m))

-- a write at the end of what is listed
pub wrote_first : (f : ℕ → Bool) (t : ℕ) (xs : List ℕ) → f t ≡ true → length (picks f t) < length xs → take (length (picks f t)) xs ≡ picks f t → take (length (picks f t) + 1) (set xs (length (picks f t)) t) ≡ picks f (t + 1)
wrote_first f t xs p l e = take_more_set xs (length (picks f t)) t l ∙ ap (λ (z : List ℕ). z ++ t ∷ []) e ∙ sym (picks_push f t p)

pub wrote_rest : (n t : ℕ) (xs ys : List ℕ) → drop n xs ≡ drop n ys → drop (n + 1) (set xs n t) ≡ drop (n + 1) ys
wrote_rest n t xs ys e =
    let l : n < n + 1 = omega arith in
    drop-set-lt (n + 1) xs n t l ∙ sym (drop-drop 1 n xs) ∙ ap (drop 1) e ∙ drop-drop 1 n ys

-- listings
abbrev Passes : (ℕ → Bool) → ℕ → ℕ → Type 0
Passes f n k = (k < n) × (f k ≡ true)

push : (f : ℕ → Bool) (n : ℕ) (ks : List ℕ) → f n ≡ true → Listing (Passes f n) ks → Listing (Passes f (suc n)) (ks ++ n ∷ [])
push f n ks p a =
    let len = length_push ks n in
    let at : (i : ℕ) → i < length ks → get_or (ks ++ n ∷ []) i 0 ≡ get_or ks i 0 = λ i l. get_or_append_left ks (n ∷ []) 0 i l in
    let end : get_or (ks ++ n ∷ []) (length ks) 0 ≡ n = get_or_push ks n 0 (length ks) refl in
    record {
      rising = λ i j l k.
          ⊎_elim
          (λ (b : j < length ks). let c : i < length ks = omega arith in omega (arith, at i c, at j b, a.rising i j l b))
          (λ (b : length ks ≤ j). let e : j ≡ length ks = omega arith in let c : i < length ks = omega arith in
          omega (arith, at i c, end, ap (λ (z : ℕ). get_or (ks ++ n ∷ []) z 0) e, (a.sound i c).0))
          (cases_lt j (length ks));
      sound = λ i k.
          ⊎_elim
          (λ (b : i < length ks). subst (Passes f (suc n)) (sym (at i b)) (let q = (a.sound i b).0 in omega arith, (a.sound i b).1))
          (λ (b : length ks ≤ i). let e : i ≡ length ks = omega arith in
          subst (Passes f (suc n)) (sym end ∙ ap (λ (z : ℕ). get_or (ks ++ n ∷ []) z 0) (sym e)) (omega arith, p))
          (cases_lt i (length ks));
      whole = λ k q.
          ⊎_elim
          (λ e. (length ks, omega arith, end ∙ sym e))
          (λ ne. let l = q.0 in let m : k < n = omega arith in let w = a.whole k (m, q.1) in let b = w.1 in (w.0, omega arith, at w.0 w.1 ∙ w.2))
          (cases_eq k n);
    }

skip : (f : ℕ → Bool) (n : ℕ) (ks : List ℕ) → f n ≡ false → Listing (Passes f n) ks → Listing (Passes f (suc n)) ks
skip f n ks p a = record {
  rising = a.rising;
  sound = λ i k. (let q = (a.sound i k).0 in omega arith, (a.sound i k).1);
  whole = λ k q.
      ⊎_elim
      (λ e. absurd (both_ways (f n) p (ap f (sym e) ∙ q.1)))
      (λ ne. let l = q.0 in let m : k < n = omega arith in a.whole k (m, q.1))
      (cases_eq k n);
}

pub listing_picks : (f : ℕ → Bool) (n : ℕ) → Listing (Passes f n) (picks f n)
listing_picks f zero = record { rising = λ i j l k. absurd (omega arith); sound = λ i k. absurd (omega arith); whole = λ k q. let l = q.0 in absurd (omega arith) }
listing_picks f (suc n) =
    ⊎_elim
    (λ p. subst (Listing (Passes f (suc n))) (sym (cond-true (f n) (picks f n ++ n ∷ []) (picks f n) p)) (push f n (picks f n) p (listing_picks f n)))
    (λ p. subst (Listing (Passes f (suc n))) (sym (cond-false (f n) (picks f n ++ n ∷ []) (picks f n) p)) (skip f n (picks f n) p (listing_picks f n)))
    (cases_Bool (f n))

pub listing_as : (P Q : ℕ → Type 0) (ks : List ℕ) → ((k : ℕ) → P k → Q k) → ((k : ℕ) → Q k → P k) → Listing P ks → Listing Q ks
listing_as P Q ks to from a = record { rising = a.rising; sound = λ i l. to (get_or ks i 0) (a.sound i l); whole = λ k q. a.whole k (from k q) }

-- the numbers below n that pass, as those that have Q
pub listed_as : (f : ℕ → Bool) (n : ℕ) (Q : ℕ → Type 0) → ((k : ℕ) → k < n → f k ≡ true → Q k) → ((k : ℕ) → Q k → (k < n) × (f k ≡ true)) → Listing Q (picks f n)
listed_as f n Q to from = listing_as (Passes f n) Q (picks f n) (λ k p. to k p.0 p.1) from (listing_picks f n)

-- a listing has one length
pub rising_one : (ks : List ℕ) (P : ℕ → Type 0) → Listing P ks → (i j : ℕ) → i < length ks → j < length ks → get_or ks i 0 ≡ get_or ks j 0 → i ≡ j
rising_one ks P a i j l k e =
    ⊎_elim (λ p. p) (⊎_elim (λ p. absurd (omega (arith, a.rising i j p k))) (λ p. absurd (omega (arith, a.rising j i p l)))) (cases_order i j)

pub listing_fits : (P : ℕ → Type 0) (ks js : List ℕ) → Listing P ks → Listing P js → length ks ≤ length js
listing_fits P ks js a b =
    ⊎_elim
    (λ (l : length js < length ks).
    let at : (i : ℕ) → (x : ℕ) × (i < length ks → (x < length js) × (get_or js x 0 ≡ get_or ks i 0)) =
    λ i. ⊎_elim (λ (m : i < length ks). let w = b.whole (get_or ks i 0) (a.sound i m) in (w.0, λ q. (w.1, w.2))) (λ (m : length ks ≤ i). (0, λ q. absurd (omega arith))) (cases_lt i (length ks)) in
    absurd (crowded (length js) (λ i. (at i).0) (λ i m. ((at i).1 (omega arith)).0)
    (λ i j m n e. let mi : i < length ks = omega arith in let mj : j < length ks = omega arith in
    rising_one ks P a i j mi mj (sym ((at i).1 mi).1 ∙ ap (λ (x : ℕ). get_or js x 0) e ∙ ((at j).1 mj).1))))
    (λ l. l)
    (cases_lt (length js) (length ks))

-- a turn of a loop that counts
abbrev pub Count : (ℕ → Bool) → ℕ → ℕ → Type 0
Count f t n = (n ≡ length (picks f t)) × (n ≤ t)

pub count_on : (f : ℕ → Bool) (t n m : ℕ) → f t ≡ true → Count f t n → m ≡ n + 1 → Count f (t + 1) m
count_on f t n m p c e = let a = c.0 in let b = c.1 in (omega (arith, count_push f t p), omega arith)

pub count_off : (f : ℕ → Bool) (t n m : ℕ) → f t ≡ false → Count f t n → m ≡ n → Count f (t + 1) m
count_off f t n m p c e = let a = c.0 in let b = c.1 in (omega (arith, count_skip f t p), omega arith)

-- a turn of a loop that writes
pub record Writing (f : ℕ → Bool) (t n : ℕ) (old new : List ℕ) : Type 0 where
  pub count : Count f t n
  pub first : take n new ≡ picks f t
  pub rest : drop n new ≡ drop n old

pub place_for : (f : ℕ → Bool) (t n m room : ℕ) → f t ≡ true → n ≡ length (picks f t) → t < m → length (picks f m) ≤ room → n < room
place_for f t n m room p e l k = omega (arith, count_push f t p, count_more f (t + 1) m (omega arith))

pub write_on : (f : ℕ → Bool) (t n m : ℕ) (old new next : List ℕ) → f t ≡ true → n < length new → Writing f t n old new → m ≡ n + 1 → next ≡ set new n t → Writing f (t + 1) m old next
write_on f t n m old new next p l w e s =
    let a = w.count.0 in
    let k : length (picks f t) < length new = omega arith in
    record {
      count = count_on f t n m p w.count e;
      first = ap (λ (z : ℕ). take z next) (e ∙ ap (λ (z : ℕ). z + 1) a) ∙ ap (take (length (picks f t) + 1)) (s ∙ ap (λ (z : ℕ). set new z t) a)
          ∙ wrote_first f t new p k (ap (λ (z : ℕ). take z new) (sym a) ∙ w.first);
      rest = ap (λ (z : ℕ). drop z next) e ∙ ap (drop (n + 1)) s ∙ wrote_rest n t new old w.rest ∙ ap (λ (z : ℕ). drop z old) (sym e);
    }

pub write_off : (f : ℕ → Bool) (t n m : ℕ) (old new next : List ℕ) → f t ≡ false → Writing f t n old new → m ≡ n → next ≡ new → Writing f (t + 1) m old next
write_off f t n m old new next p w e s = record {
  count = count_off f t n m p w.count e;
  first = ap (λ (z : ℕ). take z next) e ∙ ap (take n) s ∙ w.first ∙ sym (picks_skip f t p);
  rest = ap (λ (z : ℕ). drop z next) e ∙ ap (drop n) s ∙ w.rest ∙ ap (λ (z : ℕ). drop z old) (sym e);
}

-- what a list that was written holds
pub filled_so : (P : ℕ → Type 0) (ks old new : List ℕ) (n : ℕ) → Listing P ks → n ≡ length ks → n ≤ length new → take (length ks) new ≡ ks → drop (length ks) new ≡ drop (length ks) old → Filled P n old new
filled_so P ks old new n a e l f r = record {
  fits = l;
  first = subst (Listing P) (sym (ap (λ (z : ℕ). take z new) e ∙ f)) a;
  rest = ap (λ (z : ℕ). drop z new) e ∙ r ∙ ap (λ (z : ℕ). drop z old) (sym e);
}
