-- What marking, advancing and leaving an item keep.
use Rattle.std.proofs.Common.{◌≡◌, ℕ, suc, ◌+◌, ◌-◌, ◌/◌, ◌%◌, ◌<◌, ◌≤◌, ◌≢◌, ◌⊎◌, List, length, get_or, set, Some, None, sym, refl, ap, ◌∙◌, subst, inl, inr, arith, length-set, get_or-set_other, get_or-set_same}
use Rattle.carry.specs.declared.net.Place.{Place}
use Rattle.carry.specs.Kinds.{Kind}
use Rattle.carry.specs.Webs.{Web, Sound}
use Rattle.std.proofs.lemmas.List.{drop-set-lt, set_comm}
use Rattle.carry.specs.Walks.{Tried, Advanced, Led, starts, goes, weight, Open, Marked, Rests, Grown, Ranked, Walking}
use Rattle.std.proofs.lemmas.Bool.{cases_eq, cases_lt}
use Rattle.carry.proofs.Lists.{weight_set}

-- one more side of x is done with
abbrev pub advanced : List ℕ → ℕ → List ℕ
advanced ms x = set ms x (get_or ms x 0 + 8)

-- an advanced mark: at x, 8 more, and elsewhere as it was
pub advanced_at : (ms : List ℕ) (x j : ℕ) → x < length ms → ((j ≡ x) × (get_or (advanced ms x) j 0 ≡ get_or ms j 0 + 8)) ⊎ ((j ≢ x) × (get_or (advanced ms x) j 0 ≡ get_or ms j 0))
advanced_at ms x j h = elim (cases_eq j x) [
  | inl e ↦ inl (e, ap (λ (n : ℕ). get_or (advanced ms x) n 0) e ∙ get_or-set_same ms x _ 0 h ∙ ap (λ (n : ℕ). get_or ms n 0 + 8) (sym e))
  | inr n ↦ inr (n, get_or-set_other ms x j _ 0 n)
]

pub advanced_met : (ms : List ℕ) (x j : ℕ) → x < length ms → 0 < get_or ms j 0 → 0 < get_or (advanced ms x) j 0
advanced_met ms x j h m = elim (advanced_at ms x j h) [ inl e ↦ omega (arith, e.1) | inr e ↦ omega (arith, e.1) ]

pub was_met : (ms : List ℕ) (x j : ℕ) → x < length ms → 0 < get_or ms x 0 → 0 < get_or (advanced ms x) j 0 → 0 < get_or ms j 0
was_met ms x j h s m = elim (advanced_at ms x j h) [ inl e ↦ subst (λ (n : ℕ). 0 < get_or ms n 0) (sym e.0) s | inr e ↦ omega (arith, e.1) ]

abbrev pick : {A B : Type 0} → A ⊎ B → ℕ → ℕ → ℕ
pick (inl _) a b = a
pick (inr _) a b = b

-- rank, but a at q
abbrev ranked_as : (ℕ → ℕ) → ℕ → ℕ → ℕ → ℕ
ranked_as rank q a j = pick (cases_eq j q) a (rank j)

pick_other : {q j : ℕ} (s : (j ≡ q) ⊎ (j ≢ q)) (a b : ℕ) → j ≢ q → pick s a b ≡ b
pick_other (inl e) a b n = absurd (n e)
pick_other (inr _) a b n = refl

pick_same : {q j : ℕ} (s : (j ≡ q) ⊎ (j ≢ q)) (a b : ℕ) → j ≡ q → pick s a b ≡ a
pick_same (inl _) a b e = refl
pick_same (inr n) a b e = absurd (n e)

module _ {w : Web} {k : Kind} (sound : Sound w k) where
  advance_tried : (ms : List ℕ) (x : ℕ) → x < length ms → 0 < get_or ms x 0 → Marked w ms → ((p : Place) → w.joins x (get_or ms x 0 / 8) ≡ Some p → 0 < get_or ms p.item 0) → (i s : ℕ) (p : Place) → 0 < get_or (advanced ms x) i 0 → s < get_or (advanced ms x) i 0 / 8 → w.joins i s ≡ Some p → 0 < get_or ms p.item 0
  advance_tried ms x h o m fine i s p met less e = elim (advanced_at ms x i h) [
    | inr n ↦ m.tried i s p (omega (arith, n.1)) (rw n.1 at less) e
    | inl q ↦ elim (cases_eq s (get_or ms i 0 / 8)) [
      | inl z ↦ fine p (subst (λ (n : ℕ). w.joins n (get_or ms n 0 / 8) ≡ Some p) q.0 (subst (λ (n : ℕ). w.joins i n ≡ Some p) z e))
      | inr z ↦ m.tried i s p (was_met ms x i h o met) (let lt : s < (get_or ms i 0 + 8) / 8 = (rw q.1 at less) in omega (arith, z)) e
    ]
  ]

  pub advance_marked : (ms : List ℕ) (x : ℕ) → x < w.items → Open w ms x → Marked w ms → ((p : Place) → w.joins x (get_or ms x 0 / 8) ≡ Some p → 0 < get_or ms p.item 0) → Marked w (advanced ms x)
  advance_marked ms x inside o m fine =
      let h : x < length ms = omega (arith, m.fits) in
      record {
        fits = omega (arith, m.fits, length-set ms x (get_or ms x 0 + 8));
        came = λ i lt met. elim (advanced_at ms x i h) [
          | inl e ↦ (let old = m.came i lt (was_met ms x i h o.0 met) in let le : get_or ms i 0 / 8 ≤ w.sides = subst (λ (n : ℕ). get_or ms n 0 / 8 ≤ w.sides) (sym e.0) o.1 in (omega (arith, e.1), omega (arith, e.1), omega (arith, e.1)))
          | inr e ↦ (let old = m.came i lt (was_met ms x i h o.0 met) in (omega (arith, e.1), omega (arith, e.1), omega (arith, e.1)))
        ];
        tried = λ i s p met less e. advanced_met ms x p.item h (advance_tried ms x h o.0 m fine i s p met less e);
      }

  -- x stays open: all that are open were open before
  was_open : (ms : List ℕ) (x j : ℕ) → x < length ms → Open w ms x → Open w (advanced ms x) j → Open w ms j
  was_open ms x j h o q = elim (advanced_at ms x j h) [
    | inl e ↦ subst (λ (n : ℕ). Open w ms n) (sym e.0) o
    | inr e ↦ (omega (arith, e.1, q.0), subst (λ (n : ℕ). n / 8 ≤ w.sides) e.1 q.1)
  ]

  still_open : (ms : List ℕ) (x j : ℕ) → x < length ms → get_or ms x 0 / 8 < w.sides → Open w ms j → Open w (advanced ms x) j
  still_open ms x j h less q = elim (advanced_at ms x j h) [
    | inl e ↦ (let l : get_or ms j 0 / 8 < w.sides = subst (λ (n : ℕ). get_or ms n 0 / 8 < w.sides) (sym e.0) less in let a : 0 < get_or ms j 0 = q.0 in let b : get_or (advanced ms x) j 0 ≡ get_or ms j 0 + 8 = e.1 in (omega arith, omega arith))
    | inr e ↦ (subst (λ (n : ℕ). 0 < n) (sym e.1) q.0, subst (λ (n : ℕ). n / 8 ≤ w.sides) (sym e.1) q.1)
  ]

  other_open : (ms : List ℕ) (x j : ℕ) → j ≢ x → Open w ms j → Open w (advanced ms x) j
  other_open ms x j n q = let e = get_or-set_other ms x j (get_or ms x 0 + 8) 0 n in (subst (λ (n : ℕ). 0 < n) (sym e) q.0, subst (λ (n : ℕ). n / 8 ≤ w.sides) (sym e) q.1)

  same_side : (ms : List ℕ) (x j : ℕ) → x < length ms → get_or (advanced ms x) j 0 % 8 ≡ get_or ms j 0 % 8
  same_side ms x j h = elim (advanced_at ms x j h) [ inl e ↦ (let b : get_or (advanced ms x) j 0 ≡ get_or ms j 0 + 8 = e.1 in omega arith) | inr e ↦ ap (λ (n : ℕ). n % 8) e.1 ]

  pub advance_ranked : (ms : List ℕ) (x cur : ℕ) (rank : ℕ → ℕ) → x < length ms → Open w ms x → get_or ms x 0 / 8 < w.sides → Ranked w ms cur rank → Ranked w (advanced ms x) cur rank
  advance_ranked ms x cur rank h o less r = record {
    top = λ i lt q. r.top i lt (was_open ms x i h o q);
    apart = λ i j li lj qi qj e. r.apart i j li lj (was_open ms x i h o qi) (was_open ms x j h o qj) e;
    parent = λ i lt q c.
        let e = same_side ms x i h in
        let up = r.parent i lt (was_open ms x i h o q) (omega (arith, e)) in
        (up.0, subst (λ (n : ℕ). w.joins i (n - 1) ≡ Some up.0) (sym e) up.1, still_open ms x up.0.item h less up.2, up.3);
    root = λ i lt q c. r.root i lt (was_open ms x i h o q) (sym (same_side ms x i h) ∙ c);
  }

  -- x is done with, and open no more
  not_x : (ms : List ℕ) (x j : ℕ) → x < length ms → get_or ms x 0 / 8 ≡ w.sides → Open w (advanced ms x) j → j ≢ x
  not_x ms x j h full q e =
      let a : get_or (advanced ms x) x 0 ≡ get_or ms x 0 + 8 = get_or-set_same ms x _ 0 h in
      let b : get_or (advanced ms x) x 0 / 8 ≤ w.sides = subst (λ (n : ℕ). get_or (advanced ms x) n 0 / 8 ≤ w.sides) e q.1 in
      omega arith

  -- back to the item that the walk came from
  leave : (ms : List ℕ) (x : ℕ) (p : Place) → Walking w ms x → get_or ms x 0 / 8 ≡ w.sides → get_or ms x 0 % 8 < 5 → w.joins x (get_or ms x 0 % 8 - 1) ≡ Some p → Walking w (advanced ms x) p.item
  leave ms x p v full side e =
      let h : x < length ms = omega (arith, v.marked.fits, v.inside) in
      let rank = v.ranked.0 in
      let r = v.ranked.1 in
      let up = r.parent x v.inside v.stands side in
      let same : up.0 ≡ p = cc (sym up.1 ∙ e) in
      let op : Open w ms p.item = subst (λ (q : Place). Open w ms q.item) same up.2 in
      let ra : suc (rank p.item) ≡ rank x = subst (λ (q : Place). suc (rank q.item) ≡ rank x) same up.3 in
      let ne : p.item ≢ x = λ z. let y : rank p.item ≡ rank x = ap rank z in omega arith in
      let none : (q : Place) → w.joins x (get_or ms x 0 / 8) ≡ Some q → 0 < get_or ms q.item 0 = λ q j. let b = sound.inside x _ q j in absurd (let z : get_or ms x 0 / 8 < w.sides = b.1 in omega arith) in
      record {
        marked = advance_marked ms x v.inside v.stands v.marked none;
        inside = (sound.within _ _ p e).0;
        stands = other_open ms x p.item ne op;
        ranked = (
          rank,
          record {
            top = λ i lt q.
                let o = was_open ms x i h v.stands q in
                let le = r.top i lt o in
                let nr : rank i ≢ rank x = λ z. not_x ms x i h full q (r.apart i x lt v.inside o v.stands z) in
                omega arith;
            apart = λ i j li lj qi qj z. r.apart i j li lj (was_open ms x i h v.stands qi) (was_open ms x j h v.stands qj) z;
            parent = λ i lt q c.
                let s = same_side ms x i h in
                let o = was_open ms x i h v.stands q in
                let pa = r.parent i lt o (omega (arith, s)) in
                let le = r.top i lt o in
                let nx : pa.0.item ≢ x = λ z. let y : rank pa.0.item ≡ rank x = ap rank z in let t : suc (rank pa.0.item) ≡ rank i = pa.3 in omega arith in
                (pa.0, subst (λ (n : ℕ). w.joins i (n - 1) ≡ Some pa.0) (sym s) pa.1, other_open ms x pa.0.item nx pa.2, pa.3);
            root = λ i lt q c. r.root i lt (was_open ms x i h v.stands q) (sym (same_side ms x i h) ∙ c);
          },
        );
      }

  -- the root is done with: so is all that was open
  finish : (ms : List ℕ) (x : ℕ) → Walking w ms x → get_or ms x 0 / 8 ≡ w.sides → get_or ms x 0 % 8 ≡ 5 → Rests w (advanced ms x)
  finish ms x v full side =
      let h : x < length ms = omega (arith, v.marked.fits, v.inside) in
      let rank = v.ranked.0 in
      let r = v.ranked.1 in
      let none : (q : Place) → w.joins x (get_or ms x 0 / 8) ≡ Some q → 0 < get_or ms q.item 0 = λ q j. let b = sound.inside x _ q j in absurd (let z : get_or ms x 0 / 8 < w.sides = b.1 in omega arith) in
      record {
        marked = advance_marked ms x v.inside v.stands v.marked none;
        done = λ i lt met. elim (cases_lt w.sides (get_or (advanced ms x) i 0 / 8)) [
          | inl l ↦ l
          | inr l ↦ absurd (let q : Open w (advanced ms x) i = (met, l) in
              let o = was_open ms x i h v.stands q in
              let a = r.top i lt o in
              let z = r.root x v.inside v.stands side in
              not_x ms x i h full q (r.apart i x lt v.inside o v.stands (omega arith)))
        ];
      }

  pub advance_grown : (root : ℕ) (ms₀ ls₀ ms ls : List ℕ) (x : ℕ) → x < length ms → Open w ms x → Grown w k root ms₀ ls₀ ms ls → Grown w k root ms₀ ls₀ (advanced ms x) ls
  advance_grown root ms₀ ls₀ ms ls x h o g = record {
    begun = advanced_met ms x root h g.begun;
    neutral = g.neutral;
    kept = λ i lt met. (elim (advanced_at ms x i h) [ inl e ↦ (let b : get_or (advanced ms x) i 0 ≡ get_or ms i 0 + 8 = e.1 in let z = (g.kept i lt met).0 in omega arith) | inr e ↦ subst (λ (n : ℕ). w.sides < n / 8) (sym e.1) (g.kept i lt met).0 ], (g.kept i lt met).1);
    led = λ i lt met. g.led i lt (was_met ms x i h o.0 met);
  }

  pub advance_weight : (ms : List ℕ) (x : ℕ) → x < w.items → Open w ms x → Marked w ms → weight (advanced ms x) < weight ms
  advance_weight ms x inside o m =
      let h : x < length ms = omega (arith, m.fits) in
      let e = weight_set ms x (get_or ms x 0 + 8) h in
      let c = m.came x inside o.0 in
      let a : get_or ms x 0 / 8 ≤ w.sides = o.1 in
      let b : w.sides ≤ 4 = sound.few_sides in
      let d : get_or ms x 0 % 8 ≤ 5 = c.1 in
      let lt : get_or ms x 0 < 38 = omega arith in
      omega (arith, e)

  -- what the marks are once the item q, not met before, is met with the mark v
  set_at : (ms : List ℕ) (q v j : ℕ) → q < length ms → ((j ≡ q) × (get_or (set ms q v) j 0 ≡ v)) ⊎ ((j ≢ q) × (get_or (set ms q v) j 0 ≡ get_or ms j 0))
  set_at ms q v j h = elim (cases_eq j q) [
    | inl e ↦ inl (e, ap (λ (n : ℕ). get_or (set ms q v) n 0) e ∙ get_or-set_same ms q v 0 h)
    | inr n ↦ inr (n, get_or-set_other ms q j v 0 n)
  ]

  set_met : (ms : List ℕ) (q v j : ℕ) → q < length ms → 0 < v → 0 < get_or ms j 0 → 0 < get_or (set ms q v) j 0
  set_met ms q v j h pos met = elim (set_at ms q v j h) [ inl e ↦ subst (λ (n : ℕ). 0 < n) (sym e.1) pos | inr e ↦ subst (λ (n : ℕ). 0 < n) (sym e.1) met ]

  pub enter_marked : (ms : List ℕ) (q v : ℕ) → q < w.items → 0 < v → v ≤ 5 → Marked w ms → Marked w (set ms q v)
  enter_marked ms q v inside pos few m =
      let h : q < length ms = omega (arith, m.fits) in
      record {
        fits = omega (arith, m.fits, length-set ms q v);
        came = λ i lt met. elim (set_at ms q v i h) [
          | inl e ↦ (let b : get_or (set ms q v) i 0 ≡ v = e.1 in (omega arith, omega arith, omega arith))
          | inr e ↦ (let b : get_or (set ms q v) i 0 ≡ get_or ms i 0 = e.1 in let old = m.came i lt (omega arith) in (omega arith, omega arith, omega arith))
        ];
        tried = λ i s p met less e. set_met ms q v p.item h pos (elim (set_at ms q v i h) [
          | inl z ↦ absurd (let b : get_or (set ms q v) i 0 ≡ v = z.1 in omega arith)
          | inr z ↦ (let b : get_or (set ms q v) i 0 ≡ get_or ms i 0 = z.1 in m.tried i s p (omega arith) (omega arith) e)
        ]);
      }

  open_set : (ms : List ℕ) (q v j : ℕ) → j ≢ q → Open w ms j → Open w (set ms q v) j
  open_set ms q v j n o = let e = get_or-set_other ms q j v 0 n in (subst (λ (n : ℕ). 0 < n) (sym e) o.0, subst (λ (n : ℕ). n / 8 ≤ w.sides) (sym e) o.1)

  was_open_set : (ms : List ℕ) (q v j : ℕ) → j ≢ q → Open w (set ms q v) j → Open w ms j
  was_open_set ms q v j n o = let e = get_or-set_other ms q j v 0 n in (subst (λ (n : ℕ). 0 < n) e o.0, subst (λ (n : ℕ). n / 8 ≤ w.sides) e o.1)

  -- the piece begins
  pub begin : (ms : List ℕ) (q : ℕ) → Rests w ms → q < w.items → get_or ms q 0 ≡ 0 → Walking w (set ms q 5) q
  begin ms q r inside bare =
      let h : q < length ms = omega (arith, r.marked.fits) in
      let here : get_or (set ms q 5) q 0 ≡ 5 = get_or-set_same ms q 5 0 h in
      let only : (i : ℕ) → i < w.items → Open w (set ms q 5) i → i ≡ q = λ i lt o. elim (cases_eq i q) [
        | inl e ↦ e
        | inr n ↦ absurd (let z = was_open_set ms q 5 i n o in let d = r.done i lt z.0 in let y : get_or ms i 0 / 8 ≤ w.sides = z.1 in omega arith)
      ] in
      record {
        marked = enter_marked ms q 5 inside (omega arith) (omega arith) r.marked;
        inside = inside;
        stands = (omega (arith, here), omega (arith, here));
        ranked = (
          (λ _. 0),
          record {
            top = λ i lt o. omega arith;
            apart = λ i j li lj oi oj e. only i li oi ∙ sym (only j lj oj);
            parent = λ i lt o c. absurd (let e : get_or (set ms q 5) i 0 ≡ 5 = ap (λ (n : ℕ). get_or (set ms q 5) n 0) (only i lt o) ∙ here in omega arith);
            root = λ i lt o c. refl;
          },
        );
      }

  pub begin_grown : (ms ls : List ℕ) (q : ℕ) → Rests w ms → q < w.items → w.items ≤ length ls → get_or ms q 0 ≡ 0 → Grown w k q ms ls (set ms q 5) (set ls q k.neutral)
  begin_grown ms ls q r inside room bare =
      let h : q < length ms = omega (arith, r.marked.fits) in
      let hl : q < length ls = omega arith in
      let here : get_or (set ms q 5) q 0 ≡ 5 = get_or-set_same ms q 5 0 h in
      let there : get_or (set ls q k.neutral) q 0 ≡ k.neutral = get_or-set_same ls q k.neutral 0 hl in
      record {
        begun = omega (arith, here);
        neutral = there;
        kept = λ i lt met.
            let n : i ≢ q = λ e. let z : get_or ms i 0 ≡ 0 = ap (λ (n : ℕ). get_or ms n 0) e ∙ bare in omega arith in
            (subst (λ (n : ℕ). w.sides < n / 8) (sym (get_or-set_other ms q i 5 0 n)) (r.done i lt met), get_or-set_other ls q i k.neutral 0 n);
        led = λ i lt met. elim (cases_eq i q) [
          | inl e ↦ inr (subst (λ (n : ℕ). Led w k q n (get_or (set ls q k.neutral) n 0)) (sym e) (subst (λ (n : ℕ). Led w k q q n) (sym there) starts))
          | inr n ↦ inl (subst (λ (n : ℕ). 0 < n) (get_or-set_other ms q i 5 0 n) met)
        ];
      }

  -- the walk goes on to an item that was not met
  enter_ranked : (ms : List ℕ) (x s : ℕ) (p : Place) (rank : ℕ → ℕ) → Walking w ms x → Ranked w ms x rank → w.joins x s ≡ Some p → get_or ms p.item 0 ≡ 0 → Ranked w (set ms p.item (1 + p.side)) p.item (ranked_as rank p.item (suc (rank x)))
  enter_ranked ms x s p rank v r e bare =
      let q = p.item in
      let new = set ms q (1 + p.side) in
      let rk = ranked_as rank q (suc (rank x)) in
      let win = sound.within x s p e in
      let h : q < length ms = omega (arith, win.0, v.marked.fits) in
      let four : w.sides ≤ 4 = sound.few_sides in
      let ps : p.side < w.sides = win.1 in
      let here : get_or new q 0 ≡ 1 + p.side = get_or-set_same ms q _ 0 h in
      let rq : (i : ℕ) → i ≡ q → rk i ≡ suc (rank x) = λ i z. pick_same (cases_eq i q) (suc (rank x)) (rank i) z in
      let ro : (i : ℕ) → i ≢ q → rk i ≡ rank i = λ i z. pick_other (cases_eq i q) (suc (rank x)) (rank i) z in
      let xq : x ≢ q = λ z. let y : get_or ms x 0 ≡ 0 = ap (λ (n : ℕ). get_or ms n 0) z ∙ bare in let y2 : 0 < get_or ms x 0 = v.stands.0 in omega arith in
      let up : (i : ℕ) → i < w.items → i ≢ q → Open w new i → rk i ≤ rank x = λ i lt n o. let t = r.top i lt (was_open_set ms q _ i n o) in let z = ro i n in omega arith in
      record {
        top = λ i lt o. elim (cases_eq i q) [
          | inl z ↦ omega (arith, rq i z, rq q refl)
          | inr n ↦ omega (arith, up i lt n o, rq q refl)
        ];
        apart = λ i j li lj oi oj z. elim (cases_eq i q) [
          | inl a ↦ elim (cases_eq j q) [ inl b ↦ a ∙ sym b | inr b ↦ absurd (let t = up j lj b oj in let y = rq i a in omega arith) ]
          | inr a ↦ elim (cases_eq j q) [
            | inl b ↦ absurd (let t = up i li a oi in let y = rq j b in omega arith)
            | inr b ↦ r.apart i j li lj (was_open_set ms q _ i a oi) (was_open_set ms q _ j b oj) (sym (ro i a) ∙ z ∙ ro j b)
          ]
        ];
        parent = λ i lt o c. elim (cases_eq i q) [
          | inl a ↦
              (let ie : get_or new i 0 ≡ 1 + p.side = ap (λ (n : ℕ). get_or new n 0) a ∙ here in
              let side : get_or new i 0 % 8 - 1 ≡ p.side = omega arith in
              let pl : Place = record { item = x; side = s } in
              (pl, subst (λ (n : ℕ). w.joins i n ≡ Some pl) (sym side) (subst (λ (n : ℕ). w.joins n p.side ≡ Some pl) (sym a) (sound.back x s p e)), open_set ms q _ x xq v.stands, ap suc (ro x xq) ∙ sym (rq i a)))
          | inr a ↦
              (let m = get_or-set_other ms q i (1 + p.side) 0 a in
              let pa = r.parent i lt (was_open_set ms q _ i a o) (subst (λ (n : ℕ). n % 8 < 5) m c) in
              let nq : pa.0.item ≢ q = λ z. let y : get_or ms pa.0.item 0 ≡ 0 = ap (λ (n : ℕ). get_or ms n 0) z ∙ bare in let y2 : 0 < get_or ms pa.0.item 0 = pa.2.0 in omega arith in
              (pa.0, subst (λ (n : ℕ). w.joins i (n % 8 - 1) ≡ Some pa.0) (sym m) pa.1, open_set ms q _ pa.0.item nq pa.2, ap suc (ro pa.0.item nq) ∙ pa.3 ∙ sym (ro i a)))
        ];
        root = λ i lt o c. elim (cases_eq i q) [
          | inl a ↦ absurd (let ie : get_or new i 0 ≡ 1 + p.side = ap (λ (n : ℕ). get_or new n 0) a ∙ here in omega arith)
          | inr a ↦ (let m = get_or-set_other ms q i (1 + p.side) 0 a in ro i a ∙ r.root i lt (was_open_set ms q _ i a o) (sym (ap (λ (n : ℕ). n % 8) m) ∙ c))
        ];
      }

  enter_grown : (root : ℕ) (ms₀ ls₀ ms ls : List ℕ) (x s : ℕ) (p : Place) → x < w.items → w.items ≤ length ms → w.items ≤ length ls → Open w ms x → w.joins x s ≡ Some p → get_or ms p.item 0 ≡ 0 → Grown w k root ms₀ ls₀ ms ls → Grown w k root ms₀ ls₀ (set ms p.item (1 + p.side)) (set ls p.item (k.combined (get_or ls x 0) (w.steps x s)))
  enter_grown root ms₀ ls₀ ms ls x s p inside room rooml o e bare g =
      let q = p.item in
      let win = sound.within x s p e in
      let h : q < length ms = omega (arith, win.0) in
      let hl : q < length ls = omega (arith, win.0) in
      let m = k.combined (get_or ls x 0) (w.steps x s) in
      let there : get_or (set ls q m) q 0 ≡ m = get_or-set_same ls q m 0 hl in
      let met-other : (i : ℕ) → 0 < get_or ms i 0 → i ≢ q = λ i met z. let y : get_or ms i 0 ≡ 0 = ap (λ (n : ℕ). get_or ms n 0) z ∙ bare in omega arith in
      record {
        begun = set_met ms q _ root h (omega arith) g.begun;
        neutral = get_or-set_other ls q root m 0 (met-other root g.begun) ∙ g.neutral;
        kept = λ i lt met.
            let z = g.kept i lt met in
            let n : i ≢ q = met-other i (let y : w.sides < get_or ms i 0 / 8 = z.0 in omega arith) in
            (subst (λ (n : ℕ). w.sides < n / 8) (sym (get_or-set_other ms q i (1 + p.side) 0 n)) z.0, get_or-set_other ls q i m 0 n ∙ z.1);
        led = λ i lt met. elim (cases_eq i q) [
          | inl a ↦ inr (elim (g.led x inside o.0) [
            | inl old ↦ absurd (let y : w.sides < get_or ms x 0 / 8 = (g.kept x inside old).0 in let y2 : get_or ms x 0 / 8 ≤ w.sides = o.1 in omega arith)
            | inr l ↦ subst (λ (n : ℕ). Led w k root n (get_or (set ls q m) n 0)) (sym a) (subst (λ (n : ℕ). Led w k root q n) (sym there) (goes l e))
          ])
          | inr n ↦ (let z = g.led i lt (subst (λ (n : ℕ). 0 < n) (get_or-set_other ms q i (1 + p.side) 0 n) met) in
              elim z [ inl old ↦ inl old | inr l ↦ inr (subst (λ (n : ℕ). Led w k root i n) (sym (get_or-set_other ls q i m 0 n)) l) ])
        ];
      }

  stay : (ms ls : List ℕ) (x : ℕ) → Walking w ms x → get_or ms x 0 / 8 < w.sides → ((p : Place) → w.joins x (get_or ms x 0 / 8) ≡ Some p → 0 < get_or ms p.item 0) → Advanced w k ms ls (advanced ms x) ls (Some x)
  stay ms ls x v less fine =
      let h : x < length ms = omega (arith, v.marked.fits, v.inside) in
      record {
        goes = record {
          marked = advance_marked ms x v.inside v.stands v.marked fine;
          inside = v.inside;
          stands = still_open ms x x h less v.stands;
          ranked = (v.ranked.0, advance_ranked ms x x v.ranked.0 h v.stands less v.ranked.1);
        };
        lowers = advance_weight ms x v.inside v.stands v.marked;
        grows = λ root ms₀ ls₀ g. advance_grown root ms₀ ls₀ ms ls x h v.stands g;
        rest = drop-set-lt w.items ms x _ v.inside;
      }

  enter : (ms ls : List ℕ) (x : ℕ) (p : Place) → Walking w ms x → w.items ≤ length ls → get_or ms x 0 / 8 < w.sides → w.joins x (get_or ms x 0 / 8) ≡ Some p → get_or ms p.item 0 ≡ 0 → Advanced w k ms ls (set (set ms p.item (1 + p.side)) x (get_or ms x 0 + 8)) (set ls p.item (k.combined (get_or ls x 0) (w.steps x (get_or ms x 0 / 8)))) (Some p.item)
  enter ms ls x p v room less e bare =
      let q = p.item in
      let new = set ms q (1 + p.side) in
      let win = sound.within _ _ p e in
      let four : w.sides ≤ 4 = sound.few_sides in
      let ps : p.side < w.sides = win.1 in
      let hx : x < length ms = omega (arith, v.marked.fits, v.inside) in
      let hq : q < length ms = omega (arith, v.marked.fits, win.0) in
      let h : x < length new = omega (arith, length-set ms q (1 + p.side)) in
      let xq : x ≢ q = λ z. let y : get_or ms x 0 ≡ 0 = ap (λ (n : ℕ). get_or ms n 0) z ∙ bare in let y2 : 0 < get_or ms x 0 = v.stands.0 in omega arith in
      let same : get_or new x 0 ≡ get_or ms x 0 = get_or-set_other ms q x _ 0 xq in
      let here : get_or new q 0 ≡ 1 + p.side = get_or-set_same ms q _ 0 hq in
      let marked : Marked w new = enter_marked ms q (1 + p.side) win.0 (omega arith) (omega arith) v.marked in
      let ox : Open w new x = open_set ms q _ x xq v.stands in
      let lx : get_or new x 0 / 8 < w.sides = subst (λ (n : ℕ). n / 8 < w.sides) (sym same) less in
      let oq : Open w new q = (omega (arith, here), omega (arith, here)) in
      let fine : (z : Place) → w.joins x (get_or new x 0 / 8) ≡ Some z → 0 < get_or new z.item 0 = λ z j.
      let j2 : w.joins x (get_or ms x 0 / 8) ≡ Some z = subst (λ (n : ℕ). w.joins x (n / 8) ≡ Some z) same j in
      let pz : p ≡ z = cc (sym e ∙ j2) in
      subst (λ (y : Place). 0 < get_or new y.item 0) pz oq.0 in
      let rk = enter_ranked ms x _ p v.ranked.0 v v.ranked.1 e bare in
      let ad : advanced new x ≡ set new x (get_or ms x 0 + 8) = ap (λ (n : ℕ). set new x (n + 8)) same in
      let we = weight_set ms q (1 + p.side) hq in
      let wl : weight (advanced new x) < weight new = advance_weight new x v.inside ox marked in
      subst (λ (n : List ℕ). Advanced w k ms ls n (set ls q (k.combined (get_or ls x 0) (w.steps x (get_or ms x 0 / 8)))) (Some q)) ad
      (record {
        goes = record {
          marked = advance_marked new x v.inside ox marked fine;
          inside = win.0;
          stands = still_open new x q h lx oq;
          ranked = (_, advance_ranked new x q _ h ox lx rk);
        };
        lowers = omega (arith, we);
        grows = λ root ms₀ ls₀ g. advance_grown root ms₀ ls₀ new _ x h ox (enter_grown root ms₀ ls₀ ms ls x _ p v.inside v.marked.fits room v.stands e bare g);
        rest = drop-set-lt w.items new x _ v.inside ∙ drop-set-lt w.items ms q _ win.0;
      })

  pub try_turn : (ms ls ms' ls' : List ℕ) (x r : ℕ) → Walking w ms x → w.items ≤ length ls → get_or ms x 0 / 8 < w.sides → Tried w k x (get_or ms x 0 / 8) (advanced ms x) ls ms' ls' r → Advanced w k ms ls ms' ls' (Some r)
  try_turn ms ls ms' ls' x r v room less t =
      let h : x < length ms = omega (arith, v.marked.fits, v.inside) in
      elim t [
        | inl a ↦
            (let fine : (p : Place) → w.joins x (get_or ms x 0 / 8) ≡ Some p → 0 < get_or ms p.item 0 = λ p j. was_met ms x p.item h v.stands.0 (a.3 p j) in
            subst (λ (n : ℕ). Advanced w k ms ls ms' ls' (Some n)) (sym a.0) (subst (λ (n : List ℕ). Advanced w k ms ls n ls' (Some x)) (sym a.1) (subst (λ (n : List ℕ). Advanced w k ms ls (advanced ms x) n (Some x)) (sym a.2) (stay ms ls x v less fine))))
        | inr b ↦
            (let p = b.0 in
            let other : x ≢ p.item = λ z. let y : get_or (advanced ms x) p.item 0 ≡ get_or ms x 0 + 8 = ap (λ (n : ℕ). get_or (advanced ms x) n 0) (sym z) ∙ get_or-set_same ms x _ 0 h in let none = b.2 in omega arith in
            let bare : get_or ms p.item 0 ≡ 0 = sym (get_or-set_other ms x p.item _ 0 (λ z. other (sym z))) ∙ b.2 in
            let marks : ms' ≡ set (set ms p.item (1 + p.side)) x (get_or ms x 0 + 8) = b.4 ∙ set_comm ms x p.item _ _ other in
            subst (λ (n : ℕ). Advanced w k ms ls ms' ls' (Some n)) (sym b.3) (subst (λ (n : List ℕ). Advanced w k ms ls n ls' (Some p.item)) (sym marks) (subst (λ (n : List ℕ). Advanced w k ms ls (set (set ms p.item (1 + p.side)) x (get_or ms x 0 + 8)) n (Some p.item)) (sym b.5) (enter ms ls x p v room less b.1 bare))))
      ]

  -- x is done with, and the walk goes back to where it came from
  pub go_back : (ms ls : List ℕ) (x : ℕ) (p : Place) → Walking w ms x → get_or ms x 0 / 8 ≡ w.sides → get_or ms x 0 % 8 < 5 → w.joins x (get_or ms x 0 % 8 - 1) ≡ Some p → Advanced w k ms ls (advanced ms x) ls (Some p.item)
  go_back ms ls x p v full side e =
      let h : x < length ms = omega (arith, v.marked.fits, v.inside) in
      record {
        goes = leave ms x p v full side e;
        lowers = advance_weight ms x v.inside v.stands v.marked;
        grows = λ root ms₀ ls₀ g. advance_grown root ms₀ ls₀ ms ls x h v.stands g;
        rest = drop-set-lt w.items ms x _ v.inside;
      }

  -- x is done with, and the piece with it
  pub end_piece : (ms ls : List ℕ) (x : ℕ) → Walking w ms x → get_or ms x 0 / 8 ≡ w.sides → get_or ms x 0 % 8 ≡ 5 → Advanced w k ms ls (advanced ms x) ls None
  end_piece ms ls x v full side =
      let h : x < length ms = omega (arith, v.marked.fits, v.inside) in
      record {
        goes = finish ms x v full side;
        lowers = advance_weight ms x v.inside v.stands v.marked;
        grows = λ root ms₀ ls₀ g. advance_grown root ms₀ ls₀ ms ls x h v.stands g;
        rest = drop-set-lt w.items ms x _ v.inside;
      }
