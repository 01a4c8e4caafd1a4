-- What an index holds after a half-face was offered for a key.
use Rattle.std.proofs.Common.{◌≡◌, ℕ, ◌+◌, ◌-◌, ◌<◌, ◌≤◌, ◌⊎◌, List, length, Some, None, Ok, Err, Option, Result, Ordering, sym, refl, ap, ◌∙◌, subst, inl, inr, ⊎_elim, arith, rules, length-drop}
use Rattle.std.specs.Result.{IsOk}
use Rattle.refusal.specs.declared.Refusal.{Refusal}
use Rattle.index.specs.declared.entry.Entry.{Entry}
use Rattle.index.specs.Orders.{TotalOrder}
use Rattle.index.specs.Entries.{half_face_of}
use Rattle.index.specs.Held.{Held, Put, Stored}
use Rattle.index.proofs.Stores.{why_refused}
use Rattle.indexes.specs.Lists.{Names}
use Rattle.indexes.specs.Gathered.{Finds, Gathered, Chosen, Offered}
use Rattle.indexes.proofs.Lookups.{same_or_not, put_length}

module _ {K : Type 0} (order : K → K → Ordering) (e : Entry K) (before after : Held K) where
  -- where a place is free, a put is not refused
  pub not_refused : (r : Result Unit Refusal) → 0 < length before.free → Put order e before r after → IsOk r
  not_refused (Ok u) l p = search rules
  not_refused (Err c) l p = absurd (omega (arith, ap length (why_refused c p.0.applies).2))

  -- and the entry is in it
  pub stored : (r : Result Unit Refusal) (u : Unit {0}) → r ≡ Ok u → Put order e before r after → Stored order e before after
  stored r u is p = (subst (λ (r : Result Unit Refusal). Put order e before r after) is p).1

module _ {K : Type 0} {order : K → K → Ordering} (total : TotalOrder order) where
  pub room_left : (e : Entry K) (before after : Held K) → Stored order e before after → length before.free ≤ length after.free + 1
  room_left e before after s =
      omega (arith, ap length s.free, length-drop (length after.entries - length before.entries) before.free, ap length s.entries, put_length total e before.entries)

  module _ (Has : K → ℕ → Type 0) (Rather : ℕ → ℕ → Type 0) (itself : (x : ℕ) → Rather x x) (chain : (x y z : ℕ) → Rather x y → Rather y z → Rather x z) where
    -- h has the key k too
    abbrev pub Added : K → ℕ → K → ℕ → Type 0
    Added k h q g = Has q g ⊎ ((q ≡ k) × (g ≡ h))

    module _ (k : K) (h : ℕ) where
      other : (q : K) → (q ≡ k → ⊥) → (o : Option ℕ) → Finds Has Rather q o → Finds (Added k h) Rather q o
      other q ne None f = λ g. ⊎_elim (f g) (λ (e : (q ≡ k) × (g ≡ h)). ne e.0)
      other q ne (Some x) f = record { has = inl f.has; rather = λ g. ⊎_elim (f.rather g) (λ (e : (q ≡ k) × (g ≡ h)). absurd (ne e.0)) }

      picked : (r : ℕ) (o : Option ℕ) → Finds Has Rather k o → Chosen Rather o h r → Names (Added k h) Rather k r
      picked r None f e = record {
        has = inr (refl, e);
        rather = λ g. ⊎_elim (λ (p : Has k g). absurd (f g p)) (λ (p : (k ≡ k) × (g ≡ h)). subst (Rather r) (e ∙ sym p.1) (itself r));
      }
      picked r (Some x) f c = record {
        has = ⊎_elim (λ (e : r ≡ x). inl (subst (Has k) (sym e) f.has)) (λ (e : r ≡ h). inr (refl, e)) c.0;
        rather = λ g. ⊎_elim (λ (p : Has k g). chain r x g c.1 (f.rather g p)) (λ (p : (k ≡ k) × (g ≡ h)). subst (Rather r) (sym p.1) c.2);
      }

      pub offered : (es fs : List (Entry K)) → Gathered Has Rather order es → Offered order Rather k h es fs → Gathered (Added k h) Rather order fs
      offered es fs a o q =
          ⊎_elim
          (λ (e : q ≡ k). subst (λ (z : K). Finds (Added k h) Rather z (half_face_of order z fs)) (sym e)
          (subst (Finds (Added k h) Rather k) (sym o.found) (picked o.chosen (half_face_of order k es) (a k) o.right)))
          (λ (n : q ≡ k → ⊥). subst (Finds (Added k h) Rather q) (sym (o.others q n)) (other q n (half_face_of order q es) (a q)))
          (same_or_not total q k)

  -- the same keys under another name
  module _ (Has Had : K → ℕ → Type 0) (Rather : ℕ → ℕ → Type 0) (to : (k : K) (g : ℕ) → Has k g → Had k g) (from : (k : K) (g : ℕ) → Had k g → Has k g) where
    renamed : (k : K) (o : Option ℕ) → Finds Has Rather k o → Finds Had Rather k o
    renamed k None f = λ g p. f g (from k g p)
    renamed k (Some x) f = record { has = to k x f.has; rather = λ g p. f.rather g (from k g p) }

    pub gathered_as : (es : List (Entry K)) → Gathered Has Rather order es → Gathered Had Rather order es
    gathered_as es a k = renamed k (half_face_of order k es) (a k)
