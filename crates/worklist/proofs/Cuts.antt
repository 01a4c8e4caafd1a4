-- How a line is cut at its spaces. Assumes nothing.
use Rattle.std.proofs.Common.{◌≡◌, ℕ, suc, ◌-◌, ◌^◌, ◌<◌, ◌≤◌, List, [], ◌∷◌, ◌++◌, length, get_or, take, drop, None, decimal, sym, refl, ap, ◌∙◌, subst, suc-le-suc, arith, length-drop, take_all}
use Rattle.std.proofs.lemmas.List.{drop_more}
use Rattle.std.proofs.lemmas.Str.Parse.{digit_at}
use Rattle.std.proofs.lemmas.Fmt.{decimal_is_IsNumeral}
use Rattle.worklist.specs.Written.{spaced}
use Rattle.worklist.specs.ReaderSteps.{Cut, Reads, Leads, NoneLeads, NoNumbers, Numbers}

append_cancel : (a b c : List ℕ) → a ++ b ≡ a ++ c → b ≡ c
append_cancel [] b c e = e
append_cancel (x ∷ xs) b c e = append_cancel xs b c (cc)

no_space : (n : ℕ) → n < 65536 → (k : ℕ) → k < length (decimal n) → get_or (decimal n) k 0 ≡ 32 → ⊥
no_space n small k h e =
    let f : n < 2 ^ 64 = omega arith in
    let d = digit_at (decimal n) k (decimal_is_IsNumeral n f).0.1 h in
    omega (arith, d.0)

rest_is : (s : List ℕ) (i : ℕ) → take (length s - i) (drop i s) ≡ drop i s
rest_is s i = let h : length (drop i s) ≤ length s - i = simp length-drop (omega arith) in take_all (length s - i) (drop i s) h

-- what a pattern [x, rest @ ..] says of the whole
pub headed : (s : List ℕ) (x : ℕ) → 0 < length s → get_or s 0 0 ≡ x → s ≡ x ∷ take (length s - 1) (drop 1 s)
headed s x h e =
    let w : s ≡ get_or s 0 0 ∷ drop 1 s = drop_more s 0 0 h in
    w ∙ ap (λ (y : ℕ). y ∷ drop 1 s) e ∙ ap (λ (t : List ℕ). x ∷ t) (sym (rest_is s 1))

-- a list is cut in one way
pub cut_front : (s a b a' b' : List ℕ) → Cut s a b → Cut s a' b' → a ≡ a'
cut_front s [] b [] b' p q = refl
cut_front s [] b (x ∷ xs) b' p q =
    let w : b ≡ x ∷ (xs ++ b') = sym p.whole ∙ q.whole in
    let l : 0 < length b = omega (arith, ap length w) in
    let z : x ≡ 32 = sym (ap (λ (t : List ℕ). get_or t 0 0) w) ∙ p.seam l in
    absurd (q.plain 0 (omega arith) z)
cut_front s (x ∷ xs) b [] b' p q =
    let w : b' ≡ x ∷ (xs ++ b) = sym q.whole ∙ p.whole in
    let l : 0 < length b' = omega (arith, ap length w) in
    let z : x ≡ 32 = sym (ap (λ (t : List ℕ). get_or t 0 0) w) ∙ q.seam l in
    absurd (p.plain 0 (omega arith) z)
cut_front s (x ∷ xs) b (y ∷ ys) b' p q =
    let w : x ∷ (xs ++ b) ≡ y ∷ (ys ++ b') = sym p.whole ∙ q.whole in
    let h : x ≡ y = cc in
    let t : xs ++ b ≡ ys ++ b' = cc in
    let p' : Cut (xs ++ b) xs b = record { whole = refl; plain = λ k l e. p.plain (suc k) (suc-le-suc l) e; seam = p.seam } in
    let q' : Cut (xs ++ b) ys b' = record { whole = t; plain = λ k l e. q.plain (suc k) (suc-le-suc l) e; seam = q.seam } in
    let r = cut_front (xs ++ b) xs b ys b' p' q' in
    ap (λ (z : ℕ). z ∷ xs) h ∙ ap (λ (z : List ℕ). y ∷ z) r

pub cut_back : (s a b a' b' : List ℕ) → Cut s a b → Cut s a' b' → b ≡ b'
cut_back s a b a' b' p q =
    let f = cut_front s a b a' b' p q in
    append_cancel a b b' (sym p.whole ∙ q.whole ∙ ap (λ (z : List ℕ). z ++ b') (sym f))

-- a number and what follows it, from a space on
pub cut_number : (n : ℕ) (t : List ℕ) → n < 65536 → (0 < length t → get_or t 0 0 ≡ 32) → Cut (decimal n ++ t) (decimal n) t
cut_number n t small here = record { whole = refl; plain = no_space n small; seam = here }

pub spaced_seam : (ns : List ℕ) → 0 < length (spaced ns) → get_or (spaced ns) 0 0 ≡ 32
spaced_seam [] h = absurd (omega arith)
spaced_seam (n ∷ ns) h = refl

cut_of : (s rest : List ℕ) (m : ℕ) (t : List ℕ) → s ≡ 32 ∷ rest → Leads s m t → Cut rest (decimal m) t
cut_of s rest m t e l =
    let w : rest ≡ decimal m ++ t = let h : 32 ∷ rest ≡ 32 ∷ (decimal m ++ t) = sym e ∙ l.whole in cc in
    subst (λ (z : List ℕ). Cut z (decimal m) t) (sym w) (cut_number m t l.small l.seam)

pub none_leads : (s rest a b : List ℕ) → s ≡ 32 ∷ rest → Cut rest a b → Reads a None → NoneLeads s
none_leads s rest a b e c none m t l = none m l.small (cut_front rest a b (decimal m) t c (cut_of s rest m t e l))

pub later_some : (s : List ℕ) (n : ℕ) (more ns : List ℕ) → Leads s n more → Numbers more ns → Numbers s (n ∷ ns)
later_some s n more ns l e = (l.whole ∙ ap (λ (z : List ℕ). 32 ∷ (decimal n ++ z)) e.0, (l.small, e.1))

leads_spaced : (m : ℕ) (ms : List ℕ) → m < 65536 → Leads (spaced (m ∷ ms)) m (spaced ms)
leads_spaced m ms sm = record { whole = refl; seam = spaced_seam ms; small = sm }

pub first_none : (s : List ℕ) (k : ℕ) → NoneLeads s → NoNumbers (suc k) s
first_none s k none [] sm l e = absurd (omega arith)
first_none s k none (m ∷ ms) sm l e = none m (spaced ms) (subst (λ (z : List ℕ). Leads z m (spaced ms)) (sym e) (leads_spaced m ms sm.0))

pub later_none : (s : List ℕ) (n : ℕ) (more : List ℕ) (k : ℕ) → Leads s n more → NoNumbers k more → NoNumbers (suc k) s
later_none s n more k le none [] sm l e = absurd (omega arith)
later_none s n more k le none (m ∷ ms) sm l e =
    let le' : Leads s m (spaced ms) = subst (λ (z : List ℕ). Leads z m (spaced ms)) (sym e) (leads_spaced m ms sm.0) in
    let b = cut_back (decimal n ++ more) (decimal n) more (decimal m) (spaced ms) (cut_number n more le.small le.seam) (cut_of s (decimal n ++ more) m (spaced ms) le.whole le') in
    none ms sm.1 (omega arith) b

pub empty_is : (s : List ℕ) → length s ≡ 0 → s ≡ []
empty_is [] h = refl
empty_is (x ∷ xs) h = absurd (omega arith)
