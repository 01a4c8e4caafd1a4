-- What labels that are spread say of all labels.
use Rattle.std.proofs.Common.{◌≡◌, ℕ, ◌<◌, ◌≤◌, List, map, length, get_or, sym, ap, ◌∙◌, subst, arith}
use Rattle.std.proofs.lemmas.List.{get_or-map}
use Rattle.carry.specs.Kinds.{Kind, Group}
use Rattle.carry.specs.Webs.{Web, Sound}
use Rattle.carry.specs.Agreement.{Reach, on, Agrees, Agreeing}
use Rattle.carry.specs.Walks.{Led, starts, goes, Spread}
use Rattle.carry.proofs.Ways.{reached, reach_back, reach_on, determined}

module _ {M : Type 0} {meaning : M → ℕ} {w : Web} {k : Kind} (sound : Sound w k) (group : Group meaning k) (meant : (i s : ℕ) → (v : M) × (meaning v ≡ w.steps i s)) where
  abbrev Meant : ℕ → Type 0
  Meant n = (v : M) × (meaning v ≡ n)

  combine_meant : (a b : ℕ) → Meant a → Meant b → Meant (k.combined a b)
  combine_meant a b x y = let c = group.combined_meant x.0 y.0 in (c.0, c.1 ∙ ap (λ (n : ℕ). k.combined n (meaning y.0)) x.1 ∙ ap (k.combined a) y.1)

  assoc_meant : (a b c : ℕ) → Meant a → Meant b → Meant c → k.combined (k.combined a b) c ≡ k.combined a (k.combined b c)
  assoc_meant a b c x y z =
      subst (λ (n : ℕ). k.combined (k.combined n b) c ≡ k.combined n (k.combined b c)) x.1
      (subst (λ (n : ℕ). k.combined (k.combined (meaning x.0) n) c ≡ k.combined (meaning x.0) (k.combined n c)) y.1
      (subst (λ (n : ℕ). k.combined (k.combined (meaning x.0) (meaning y.0)) n ≡ k.combined (meaning x.0) (k.combined (meaning y.0) n)) z.1 (group.associative x.0 y.0 z.0)))

  undo : (a b : ℕ) → Meant a → Meant b → k.combined (k.inverse a) (k.combined a b) ≡ b
  undo a b x y =
      let i = group.inverse_meant x.0 in
      let im : Meant (k.inverse a) = (i.0, i.1 ∙ ap k.inverse x.1) in
      let bk : k.combined (k.inverse a) a ≡ k.neutral = subst (λ (n : ℕ). k.combined (k.inverse n) n ≡ k.neutral) x.1 (group.inverse_before x.0) in
      let bf : k.combined k.neutral b ≡ b = subst (λ (n : ℕ). k.combined k.neutral n ≡ n) y.1 (group.neutral_before y.0) in
      sym (assoc_meant (k.inverse a) a b im x y) ∙ ap (λ (n : ℕ). k.combined n b) bk ∙ bf

  cancel : (a b c : ℕ) → Meant a → Meant b → Meant c → k.combined a b ≡ k.combined a c → b ≡ c
  cancel a b c x y z e = sym (undo a b x y) ∙ ap (k.combined (k.inverse a)) e ∙ undo a c x z

  led_meant : {f i m : ℕ} → Led w k f i m → Meant m
  led_meant starts = group.neutral_meant
  led_meant (goes {i = i} {s = s} {m = m} l e) = combine_meant m (w.steps i s) (led_meant l) (meant i s)

  -- labels that agree are what they are at f, and then the way
  carried : {f i m : ℕ} → (ls : List ℕ) → Agrees w k ls → Meant (get_or ls f 0) → Led w k f i m → get_or ls i 0 ≡ k.combined (get_or ls f 0) m
  carried {f = f} ls a x starts = subst (λ (n : ℕ). n ≡ k.combined n k.neutral) x.1 (sym (group.neutral_after x.0))
  carried {f = f} ls a x (goes {i = i} {s = s} {m = m} {p = p} l e) =
      a i s p e ∙ ap (λ (n : ℕ). k.combined n (w.steps i s)) (carried ls a x l) ∙ assoc_meant (get_or ls f 0) m (w.steps i s) x (led_meant l) (meant i s)

  listed : (xs : List M) (i : ℕ) → i < length xs → Meant (get_or (map meaning xs) i 0)
  listed xs i h = (get_or xs i group.neutral_meant.0, sym (get_or-map meaning xs i group.neutral_meant.0 0 h))

  -- where any labels agree, those that are spread do
  pub spread_agrees : (ls : List ℕ) (c : ℕ) → Spread w k ls c → (xs : List M) → w.items ≤ length xs → Agrees w k (map meaning xs) → Agrees w k ls
  spread_agrees ls c sp xs room a i s p e =
      let fi = sound.inside i s p e in
      let wi = sound.within i s p e in
      let u = sp.led i fi.0 in
      let v = sp.led p.item wi.0 in
      let over : Reach w u.0 p.item = on (reached u.2) e in
      let le1 = u.1.1 v.0 (reach_on over (reach_back sound (reached v.2))) in
      let le2 = v.1.1 u.0 (reach_on (reached v.2) (reach_back sound over)) in
      let same : v.0 ≡ u.0 = omega arith in
      let way : Led w k u.0 p.item (get_or ls p.item 0) = subst (λ (n : ℕ). Led w k n p.item (get_or ls p.item 0)) same v.2 in
      let ms = map meaning xs in
      let f : u.0 < w.items = u.1.0 in
      let x : Meant (get_or ms u.0 0) = listed xs u.0 (omega arith) in
      let l1 = carried ms a x way in
      let l2 = carried ms a x (goes u.2 e) in
      cancel (get_or ms u.0 0) _ _ x (led_meant way) (led_meant (goes u.2 e)) (sym l1 ∙ l2)

  pub agreeing : (ls : List ℕ) (c : ℕ) → Spread w k ls c → Agrees w k ls → Agreeing w k meaning ls c
  agreeing ls c sp a = record {
    agrees = a;
    grounded = sp.grounded;
    only = λ xs room b g i lt. let u = sp.led i lt in determined (map meaning xs) b (g u.0 u.1) u.2;
    counted = sp.counted;
    pieced = λ i lt. let u = sp.led i lt in (u.0, u.1, reached u.2);
  }
