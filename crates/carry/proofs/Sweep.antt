-- The pieces one after another.
use Rattle.std.proofs.Common.{◌≡◌, ℕ, ◌+◌, ◌<◌, ◌≤◌, List, length, get_or, sym, ◌∙◌, subst, inl, inr, add-one, arith}
use Rattle.carry.specs.Kinds.{Kind}
use Rattle.carry.specs.Webs.{Web, Sound}
use Rattle.carry.specs.Agreement.{Reach, here, on, FirstItem}
use Rattle.carry.specs.Counting.{Counts, none, one, skip}
use Rattle.carry.specs.Walks.{Led, Rests, Grown, Spread}
use Rattle.std.proofs.lemmas.Bool.{cases_eq, cases_lt}
use Rattle.carry.proofs.Ways.{reached, reach_back}

-- the items below n have had their turn
pub record Swept (w : Web) (k : Kind) (n : ℕ) (ms ls : List ℕ) (pieces : ℕ) : Type 0 where
  pub rests : Rests w ms
  pub met : (i : ℕ) → i < n → 0 < get_or ms i 0
  pub led : (i : ℕ) → i < w.items → 0 < get_or ms i 0 → (f : ℕ) × (f < n) × FirstItem w f × Led w k f i (get_or ls i 0)
  pub grounded : (i : ℕ) → i < n → FirstItem w i → get_or ls i 0 ≡ k.neutral
  pub counted : Counts (FirstItem w) n pieces
  pub few : pieces ≤ n

module _ {w : Web} {k : Kind} (sound : Sound w k) where
  met_all : {j i : ℕ} → (ms : List ℕ) → Rests w ms → Reach w j i → 0 < get_or ms j 0 → 0 < get_or ms i 0
  met_all ms r here met = met
  met_all ms r (on {j = j} {s = s} {p = p} q e) met =
      let m = met_all ms r q met in
      let f = sound.inside j s p e in
      let d = r.done j f.0 m in
      let l : s < w.sides = f.1 in
      r.marked.tried j s p m (omega arith) e

  pub swept_none : (ms ls : List ℕ) → w.items ≤ length ms → ((i : ℕ) → i < w.items → get_or ms i 0 ≡ 0) → Swept w k 0 ms ls 0
  swept_none ms ls room bare = record {
    rests = record {
      marked = record {
        fits = room;
        came = λ i lt met. absurd (omega (arith, bare i lt));
        tried = λ i s p met less e. absurd (omega (arith, bare i (sound.inside i s p e).0));
      };
      done = λ i lt met. absurd (omega (arith, bare i lt));
    };
    met = λ i lt. absurd (omega arith);
    led = λ i lt met. absurd (omega (arith, bare i lt));
    grounded = λ i lt f. absurd (omega arith);
    counted = none;
    few = omega arith;
  }

  pub swept_piece : (n c : ℕ) (ms ls ms' ls' : List ℕ) → Swept w k n ms ls c → n < w.items → get_or ms n 0 ≡ 0 → Rests w ms' → Grown w k n ms ls ms' ls' → Swept w k (n + 1) ms' ls' (c + 1)
  swept_piece n c ms ls ms' ls' s lt bare r g =
      let first : FirstItem w n = (
        lt,
        λ j q. elim (cases_lt j n) [
          | inr le ↦ le
          | inl less ↦ absurd (let z = met_all ms s.rests (reach_back sound q) (s.met j less) in omega arith)
        ],
      ) in
      record {
        rests = r;
        met = λ i l. elim (cases_eq i n) [
          | inl e ↦ subst (λ (x : ℕ). 0 < get_or ms' x 0) (sym e) g.begun
          | inr ne ↦ (let z = (g.kept i (omega arith) (s.met i (omega arith))).0 in omega arith)
        ];
        led = λ i l met. elim (g.led i l met) [
          | inl old ↦ (let z = s.led i l old in (z.0, omega (arith, z.1), z.2, subst (λ (x : ℕ). Led w k z.0 i x) (sym (g.kept i l old).1) z.3))
          | inr way ↦ (n, omega arith, first, way)
        ];
        grounded = λ i l f. elim (cases_eq i n) [
          | inl e ↦ subst (λ (x : ℕ). get_or ls' x 0 ≡ k.neutral) (sym e) g.neutral
          | inr ne ↦ (g.kept i f.0 (s.met i (omega arith))).1 ∙ s.grounded i (omega arith) f
        ];
        counted = rw (add-one, add-one) (one s.counted first);
        few = omega (arith, s.few);
      }

  pub swept_skip : (n c : ℕ) (ms ls : List ℕ) → Swept w k n ms ls c → n < w.items → 0 < get_or ms n 0 → Swept w k (n + 1) ms ls c
  swept_skip n c ms ls s lt met =
      let z = s.led n lt met in
      let later : FirstItem w n → ⊥ = λ f. let le = f.1 z.0 (reach_back sound (reached z.3)) in let l : z.0 < n = z.1 in omega arith in
      record {
        rests = s.rests;
        met = λ i l. elim (cases_eq i n) [ inl e ↦ subst (λ (x : ℕ). 0 < get_or ms x 0) (sym e) met | inr ne ↦ s.met i (omega arith) ];
        led = λ i l m. let y = s.led i l m in (y.0, omega (arith, y.1), y.2, y.3);
        grounded = λ i l f. elim (cases_eq i n) [ inl e ↦ absurd (later (subst (λ (x : ℕ). FirstItem w x) e f)) | inr ne ↦ s.grounded i (omega arith) f ];
        counted = rw add-one (skip s.counted later);
        few = omega (arith, s.few);
      }

  pub swept_all : (ms ls : List ℕ) (c : ℕ) → Swept w k w.items ms ls c → Spread w k ls c
  swept_all ms ls c s = record {
    led = λ i lt. let z = s.led i lt (s.met i lt) in (z.0, z.2, z.3);
    grounded = λ i f. s.grounded i f.0 f;
    counted = s.counted;
  }

  pub swept_as : (n c c' : ℕ) (ms ms' ls ls' : List ℕ) → ms' ≡ ms → ls' ≡ ls → c' ≡ c → Swept w k n ms ls c → Swept w k n ms' ls' c'
  swept_as n c c' ms ms' ls ls' em el ec s = subst (λ (x : List ℕ). Swept w k n x ls' c') (sym em) (subst (λ (x : List ℕ). Swept w k n ms x c') (sym el) (subst (λ (x : ℕ). Swept w k n ms ls x) (sym ec) s))
