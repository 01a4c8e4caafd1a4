-- Bytes written one after another, and how many there are. Assumes nothing.
use Rattle.std.proofs.Common.{◌≡◌, ℕ, ◌+◌, ◌-◌, ◌/◌, ◌%◌, ◌^◌, ◌<◌, ◌≤◌, List, [], ◌∷◌, ◌++◌, length, get_or, take, drop, set, decimal, sym, refl, ap, ◌∙◌, subst, append_assoc, append-nil, zero-add, arith, length-append, take-append-drop, drop-drop, drop-set-lt}
use borrow.Rule.Slice.PartMut.{put_mid}
use Rattle.std.proofs.lemmas.List.{take_more, take_more_set}
use Rattle.std.proofs.lemmas.Fmt.{decimal_digit, decimal_step, length-decimal-le}
use Rattle.std.proofs.lemmas.Slice.{take-put_mid, drop-put_mid}
use Rattle.refusal.specs.declared.Refusal.{Refusal}
use Rattle.refusal.specs.declared.Refusal.TheVariants.{ListTooShort}
use Rattle.refusal.specs.Numbers.{number_of}
use Rattle.refusal.specs.Causes.{First, NoCause}
use Rattle.worklist.specs.Written.{spaced}
use Rattle.worklist.specs.AnswerLines.{said, LineCause, Holds}
use Rattle.worklist.specs.AnswerLines.LineCause.{short}
use Rattle.worklist.specs.WriterSteps.{Put}

-- bytes copied into a part
pub put_part : (old bs part : List ℕ) (at n : ℕ) → part ≡ bs → n ≡ at + length bs → n ≤ length old → Put old (put_mid at (n - at) old part) at bs n
put_part old bs part at n copied e h = record {
  end = e;
  front = take-put_mid at (n - at) old part n (omega (arith, e, ap length copied)) (omega (arith, e, h)) ∙ ap (λ (z : List ℕ). take at old ++ z) copied;
  back = drop-put_mid at (n - at) old part n (omega (arith, e)) (omega (arith, e, h)) (omega (arith, e, ap length copied));
}

pub put_one : (old : List ℕ) (at b : ℕ) → at < length old → Put old (set old at b) at (b ∷ []) (at + 1)
put_one old at b h = record { end = refl; front = take_more_set old at b h; back = drop-set-lt (at + 1) old at b (omega arith) }

pub put_more : (old mid new : List ℕ) (at n m : ℕ) (bs cs : List ℕ) → Put old mid at bs n → Put mid new n cs m → Put old new at (bs ++ cs) m
put_more old mid new at n m bs cs p q = record {
  end = omega (arith, p.end, q.end, length-append bs cs);
  front = q.front ∙ ap (λ (z : List ℕ). z ++ cs) p.front ∙ append_assoc (take at old) bs cs;
  back =
      q.back
      ∙ ap (λ (z : ℕ). drop z mid) q.end
      ∙ sym (drop-drop (length cs) n mid)
      ∙ ap (λ (z : List ℕ). drop (length cs) z) p.back
      ∙ drop-drop (length cs) n old
      ∙ ap (λ (z : ℕ). drop z old) (sym q.end);
}

pub put_as : (old new : List ℕ) (at n : ℕ) (bs cs : List ℕ) → bs ≡ cs → Put old new at bs n → Put old new at cs n
put_as old new at n bs cs e p = subst (λ (z : List ℕ). Put old new at z n) e p

pub width_one : (n : ℕ) → n < 10 → 1 ≡ length (decimal n)
width_one n h = sym (ap length (decimal_digit n h))

pub width_more : (n : ℕ) → 10 ≤ n → n < 2 ^ 64 → length (decimal (n / 10)) + 1 ≡ length (decimal n)
width_more n h f = omega (arith, ap length (decimal_step n h f), length-append (decimal (n / 10)) ((48 + n % 10) ∷ []))

pub width_most : (n : ℕ) → n < 65536 → length (decimal n) ≤ 5
width_most n f = let p : n < 10 ^ 5 = omega arith in length-decimal-le 5 n (omega arith) p (omega arith)

spaced_append : (ns ms : List ℕ) → spaced (ns ++ ms) ≡ spaced ns ++ spaced ms
spaced_append [] ms = refl
spaced_append (n ∷ ns) ms = ap (λ (z : List ℕ). 32 ∷ (decimal n ++ z)) (spaced_append ns ms) ∙ ap (λ (z : List ℕ). 32 ∷ z) (sym (append_assoc (decimal n) (spaced ns) (spaced ms)))

pub spaced_more : (ns : List ℕ) (i : ℕ) → i < length ns → spaced (take (i + 1) ns) ≡ spaced (take i ns) ++ ((32 ∷ []) ++ decimal (get_or ns i 0))
spaced_more ns i h =
    ap spaced (take_more ns i 0 h) ∙ spaced_append (take i ns) (get_or ns i 0 ∷ [])
    ∙ ap (λ (z : List ℕ). spaced (take i ns) ++ (32 ∷ z)) (append-nil (decimal (get_or ns i 0)))

pub width_spaced : (ns : List ℕ) (i : ℕ) → i < length ns → length (spaced (take (i + 1) ns)) ≡ length (spaced (take i ns)) + (length (decimal (get_or ns i 0)) + 1)
width_spaced ns i h = omega (arith, ap length (spaced_more ns i h), length-append (spaced (take i ns)) ((32 ∷ []) ++ decimal (get_or ns i 0)))

pub within : (ns : List ℕ) (i : ℕ) → length (spaced (take i ns)) ≤ length (spaced ns)
within ns i = omega (arith, ap length (ap spaced (sym (take-append-drop i ns)) ∙ spaced_append (take i ns) (drop i ns)), length-append (spaced (take i ns)) (spaced (drop i ns)))

pub length_said : (word ns : List ℕ) → length (said word ns) ≡ length word + (length (spaced ns) + 1)
length_said word ns = omega (arith, length-append word (spaced ns ++ (10 ∷ [])), length-append (spaced ns) (10 ∷ []))

pub holds : (old new bs : List ℕ) (n : ℕ) → Put old new 0 bs n → Holds bs old n new
holds old new bs n p = record {
  count = p.end ∙ zero-add (length bs);
  places = sym (take-append-drop n new) ∙ ap (λ (z : List ℕ). z ++ drop n new) p.front ∙ ap (λ (z : List ℕ). bs ++ z) p.back;
}

-- a cause that refuses to write a line says that the line is too short
too_short : (bs line : List ℕ) (c : Refusal) → LineCause bs line c → length line < length bs
too_short bs line c (short h) = h

only : (bs line : List ℕ) (c : Refusal) → number_of c < 3 → LineCause bs line c → ⊥
only bs line c l (short h) = omega arith

pub no_cause : (bs line : List ℕ) → length bs ≤ length line → NoCause (LineCause bs line)
no_cause bs line h c w = omega (arith, too_short bs line c w)

-- and it is the only one
pub first_short : (bs line : List ℕ) → length line < length bs → First (LineCause bs line) ListTooShort
first_short bs line h = record { applies = short h; none_before = only bs line }
