-- An answer in other words is told by the same bytes.
use Rattle.std.proofs.Common.{◌≡◌, ℕ, List, length, take, Ok, Err, Result, MatchResult, IsOkAnd, codes, ap, subst}
use Rattle.std.specs.Borrow.{Bor}
use Rattle.refusal.specs.declared.Refusal.{Refusal}
use Rattle.refusal.specs.Causes.{First, NoCause, Answered}
use Rattle.rules.specs.Listings.{Listing}
use Rattle.rules.specs.Questions.{TellsList}
use Rattle.worklist.specs.AnswerLines.{said}
use Rattle.runlist.specs.Obeyed.{answer}

pub same_answer : {A B : Type 0} (f : A → List ℕ) (g : B → List ℕ) (r : Result A Refusal) (q : Result B Refusal) (becomes : A → B → Type 0)
    → MatchResult r (λ a. IsOkAnd q (becomes a)) (λ c. q ≡ Err c) → ((a : A) (b : B) → becomes a b → g b ≡ f a) → answer g q ≡ answer f r
same_answer f g (Ok a) (Ok b) becomes m same = ap (said (codes "ok")) (same a b m)
same_answer f g (Ok a) (Err c) becomes m same = absurd m
same_answer f g (Err c) q becomes m same = ap (answer g) m

-- a list that fills the first of 1,024 places
pub listed : (Applies : ℕ → Refusal → Type 0) (P : ℕ → Type 0) (old new : List ℕ) (r : Result ℕ Refusal) (q : Result (Bor (List ℕ)) Refusal) (becomes : ℕ → Bor (List ℕ) → Type 0)
    → length old ≡ 1024 → TellsList (Applies (length old)) P old r new
    → MatchResult r (λ n. IsOkAnd q (becomes n)) (λ c. q ≡ Err c) → ((n : ℕ) (b : Bor (List ℕ)) → becomes n b → b.now ≡ take n new)
    → (x : Result (List ℕ) Refusal) × Answered (Applies 1024) (Listing P) x × (answer (λ b. b.now) q ≡ answer (λ ts. ts) x)
listed Applies P old new (Ok n) q becomes room t m same = (
  Ok (take n new),
  (subst (λ (k : ℕ). NoCause (Applies k)) room t.0, t.1.first),
  same_answer (λ n. take n new) (λ b. b.now) (Ok n) q becomes m same,
)
listed Applies P old new (Err c) q becomes room t m same = (
  Err c,
  subst (λ (k : ℕ). First (Applies k) c) room t.0,
  same_answer (λ n. take n new) (λ b. b.now) (Err c) q becomes m same,
)
