-- Entries that rise, put one after another into an index that has none.
use Rattle.std.proofs.Common.{◌≡◌, ℕ, ◌+◌, ◌-◌, ◌<◌, ◌≤◌, List, [], ◌∷◌, ◌++◌, length, get_or, take, drop, Ordering, sym, ap, ◌∙◌, arith, length-drop}
use Rattle.std.proofs.lemmas.List.{length-take-le, get_or-take, get_or_default, take_more, drop-drop}
use Rattle.index.specs.declared.entry.Entry.{Entry}
use Rattle.index.specs.Orders.{TotalOrder}
use Rattle.index.specs.Entries.{Rising, put_in}
use Rattle.index.specs.Search.{LessBefore}
use Rattle.index.specs.Held.{Held, Stored}
use Rattle.index.proofs.Places.{rising_apart}
use Rattle.indexes.proofs.Lookups.{put_last}

-- the first n of the entries es stand in the first places, and the other places are as they were
abbrev pub Handed : {K : Type 0} → List (Entry K) → List (Entry K) → ℕ → Held K → Type 0
Handed es places n h = h ≡ record { entries = take n es; free = drop n places }

pub held_is : {K : Type 0} (h : Held K) (es fs : List (Entry K)) → h.entries ≡ es → h.free ≡ fs → h ≡ record { entries = es; free = fs }
held_is {K} h es fs p q = ap (λ (z : List (Entry K)). record { entries = z; free = h.free }) p ∙ ap (λ (z : List (Entry K)). record { entries = es; free = z }) q

module _ {K : Type 0} {order : K → K → Ordering} (total : TotalOrder order) (es places : List (Entry K)) (rising : Rising order es) (i : ℕ) (within : i < length es) (fits : length es ≤ length places) where
  -- there is room for one more
  pub room : (before : Held K) → Handed es places i before → 0 < length before.free
  room before h = omega (arith, ap (λ (z : Held K). length z.free) h, length-drop i places)

  pub one_more : (e : Entry K) (before after : Held K) → e ≡ get_or es i e → Handed es places i before → Stored order e before after → Handed es places (i + 1) after
  one_more e before after is h s =
      let many : length (take i es) ≡ i = length-take-le i es (omega arith) in
      let less : LessBefore order e.key (take i es) (length (take i es)) = λ j d l.
      let m : j < i = omega arith in
      let t : i < length es = within in
      ap (λ (x : Entry K). order x.key e.key) (get_or-take i es j d m)
      ∙ ap (λ (x : Entry K). order (get_or es j d).key x.key) is
      ∙ ap (λ (x : Entry K). order x.key (get_or es i e).key) (same j d m)
      ∙ rising_apart total es rising j i e m t in
      let entries : after.entries ≡ take (i + 1) es = s.entries ∙ ap (λ (z : Held K). put_in order e z.entries) h ∙ put_last total e (take i es) less
      ∙ ap (λ (x : Entry K). take i es ++ x ∷ []) is ∙ sym (take_more es i e within) in
      let grown : length after.entries - length before.entries ≡ 1 = omega (arith, ap length entries, ap (λ (z : Held K). length z.entries) h, many, length-take-le (i + 1) es (omega arith)) in
      held_is after (take (i + 1) es) (drop (i + 1) places) entries
      (s.free ∙ ap (λ (n : ℕ). drop n before.free) grown ∙ ap (λ (z : Held K). drop 1 z.free) h ∙ drop-drop 1 i places)
    where
      same : (j : ℕ) (d : Entry K) → j < i → get_or es j d ≡ get_or es j e
      same j d m = get_or_default es j d e (omega arith)
