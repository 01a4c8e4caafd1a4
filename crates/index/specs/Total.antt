-- Total orders: of numbers, of two parts one after the other, of what is told apart by its parts, and what the library calls one.
use Rattle.std.specs.Prelude.{◌≡◌, ℕ, ◌<◌, ◌⊎◌, refl}
use Rattle.std.specs.declared.cmp.Ordering.TheVariants.{Less, Equal, Greater}
use Rattle.std.specs.declared.cmp.Ordering.{Ordering}
use Rattle.std.proofs.Common.{sym, ap, ◌∙◌, subst, inl, inr, ⊎_elim}
use Rattle.std.specs.Cmp.{IsTotalOrder, nat_cmp_total, ranks}
use Rattle.std.specs.Ordering.{MatchOrdering, nat_cmp, ordering_reverse, ordering_then}
use Rattle.index.specs.Orders.{TotalOrder}

-- what the library calls a total order is one, where a key is equal to itself alone
pub total_of : {K : Type 0} {order : K → K → Ordering} → IsTotalOrder order → ((x y : K) → order x y ≡ Equal → x ≡ y) → TotalOrder order
total_of laws equal_only = record {
  exchanged = λ x y. laws.antisymm y x;
  equal_only = equal_only;
  chained = laws.trans;
}

-- ---- numbers by size
pub number_identical : (a b : ℕ) → nat_cmp a b ≡ Equal → a ≡ b
number_identical a b h = subst (λ (o : Ordering). MatchOrdering o (a < b) (a ≡ b) (b < a)) h (ranks a b)

pub number_total : TotalOrder nat_cmp
number_total = total_of nat_cmp_total number_identical

-- ---- a key is equal to itself
own_reverse : (o : Ordering) → o ≡ ordering_reverse o → o ≡ Equal
own_reverse Less h = cc
own_reverse Equal h = refl
own_reverse Greater h = cc

pub equal_itself : {A : Type 0} {f : A → A → Ordering} → TotalOrder f → (x : A) → f x x ≡ Equal
equal_itself {f = f} t x = own_reverse (f x x) (t.exchanged x x)

-- ---- one part and then another
then_reversed : (o p : Ordering) → ordering_then (ordering_reverse o) (ordering_reverse p) ≡ ordering_reverse (ordering_then o p)
then_reversed Less p = refl
then_reversed Equal p = refl
then_reversed Greater p = refl

then_equal : (o p : Ordering) → ordering_then o p ≡ Equal → (o ≡ Equal) × (p ≡ Equal)
then_equal Less p h = (cc, cc)
then_equal Equal p h = (refl, h)
then_equal Greater p h = (cc, cc)

then_less : (o p : Ordering) → ordering_then o p ≡ Less → (o ≡ Less) ⊎ ((o ≡ Equal) × (p ≡ Less))
then_less Less p h = inl refl
then_less Equal p h = inr (refl, h)
then_less Greater p h = inl cc

module _ {A B : Type 0} (f : A → A → Ordering) (g : B → B → Ordering) (s : TotalOrder f) (t : TotalOrder g) where
  abbrev pub Lexical : A × B → A × B → Ordering
  Lexical p q = ordering_then (f p.0 q.0) (g p.1 q.1)

  first_less : (p q : A × B) → f p.0 q.0 ≡ Less → Lexical p q ≡ Less
  first_less p q h = ap (λ (o : Ordering). ordering_then o (g p.1 q.1)) h

  second_less : (p q : A × B) → f p.0 q.0 ≡ Equal → g p.1 q.1 ≡ Less → Lexical p q ≡ Less
  second_less p q h k = ap (λ (o : Ordering). ordering_then o (g p.1 q.1)) h ∙ k

  -- a first part that is equal to another stands as it does to a third
  from_equal : (x y z : A) → f x y ≡ Equal → f x z ≡ f y z
  from_equal x y z h = ap (λ (a : A). f a z) (s.equal_only x y h)

  to_equal : (x y z : A) → f y z ≡ Equal → f x z ≡ f x y
  to_equal x y z h = ap (f x) (sym (s.equal_only y z h))

  lexical_chained : (p q r : A × B) → Lexical p q ≡ Less → Lexical q r ≡ Less → Lexical p r ≡ Less
  lexical_chained p q r h k =
      ⊎_elim
      (λ (a : f p.0 q.0 ≡ Less). ⊎_elim
      (λ (b : f q.0 r.0 ≡ Less). first_less p r (s.chained p.0 q.0 r.0 a b))
      (λ (b : (f q.0 r.0 ≡ Equal) × (g q.1 r.1 ≡ Less)). first_less p r (to_equal p.0 q.0 r.0 b.0 ∙ a))
      (then_less (f q.0 r.0) (g q.1 r.1) k))
      (λ (a : (f p.0 q.0 ≡ Equal) × (g p.1 q.1 ≡ Less)). ⊎_elim
      (λ (b : f q.0 r.0 ≡ Less). first_less p r (from_equal p.0 q.0 r.0 a.0 ∙ b))
      (λ (b : (f q.0 r.0 ≡ Equal) × (g q.1 r.1 ≡ Less)). second_less p r (from_equal p.0 q.0 r.0 a.0 ∙ b.0) (t.chained p.1 q.1 r.1 a.1 b.1))
      (then_less (f q.0 r.0) (g q.1 r.1) k))
      (then_less (f p.0 q.0) (g p.1 q.1) h)

  lexical_equal : (p q : A × B) → Lexical p q ≡ Equal → p ≡ q
  lexical_equal p q h =
      let e = then_equal (f p.0 q.0) (g p.1 q.1) h in
      let a = s.equal_only p.0 q.0 e.0 in
      let b = t.equal_only p.1 q.1 e.1 in
      ap (λ (x : A). (x, p.1)) a ∙ ap (λ (y : B). (q.0, y)) b

  pub lexical_total : TotalOrder Lexical
  lexical_total = record {
    exchanged = λ p q. rw (s.exchanged p.0 q.0, t.exchanged p.1 q.1) (then_reversed (f p.0 q.0) (g p.1 q.1));
    equal_only = lexical_equal;
    chained = lexical_chained;
  }

-- ---- keys that are told apart by their parts are ordered as the parts are
pub total_by : {K A : Type 0} {f : A → A → Ordering} → TotalOrder f → (parts : K → A) → ((x y : K) → parts x ≡ parts y → x ≡ y) → TotalOrder (λ (x y : K). f (parts x) (parts y))
total_by t parts apart = record {
  exchanged = λ x y. t.exchanged (parts x) (parts y);
  equal_only = λ x y h. apart x y (t.equal_only (parts x) (parts y) h);
  chained = λ x y z. t.chained (parts x) (parts y) (parts z);
}

-- ---- the same order from the greatest down
pub turned_total : {A : Type 0} {f : A → A → Ordering} → TotalOrder f → TotalOrder (λ (x y : A). f y x)
turned_total t = record {
  exchanged = λ x y. t.exchanged y x;
  equal_only = λ x y h. sym (t.equal_only y x h);
  chained = λ x y z h k. t.chained z y x k h;
}
