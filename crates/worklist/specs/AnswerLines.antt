-- The bytes of an answer's line, and what writing them into a line handed over does.
use Rattle.std.specs.Prelude.{◌≡◌, ℕ, ◌<◌, List, [], ◌∷◌, ◌++◌, length, drop, codes, Result, refl}
use Rattle.refusal.specs.declared.Refusal.{Refusal}
use Rattle.refusal.specs.declared.Refusal.TheVariants.{ListTooShort}
use Rattle.refusal.specs.Numbers.{number_of}
use Rattle.refusal.specs.Causes.{Outcome}
use Rattle.worklist.specs.declared.answer.Answer.{Answer}
use Rattle.worklist.specs.declared.answer.Answer.TheVariants.{Ok, No, Bad}
use Rattle.worklist.specs.Written.{spaced}

-- a word, the numbers, each after one space, and byte 10
abbrev pub said : List ℕ → List ℕ → List ℕ
said word ns = word ++ (spaced ns ++ (10 ∷ []))

-- what an answer says, without the byte 10 of its line
abbrev pub shown : Answer → List ℕ
shown (Ok ns) = codes "ok" ++ spaced ns.now
shown (No c) = codes "no" ++ spaced (number_of c ∷ [])
shown (Bad f) = codes "bad" ++ spaced (number_of f.refusal ∷ f.line ∷ [])

abbrev pub bytes_of : Answer → List ℕ
bytes_of (Ok ns) = said (codes "ok") ns.now
bytes_of (No c) = said (codes "no") (number_of c ∷ [])
bytes_of (Bad f) = said (codes "bad") (number_of f.refusal ∷ f.line ∷ [])

-- the line is what the answer says, and byte 10
pub line_shown : (a : Answer) → bytes_of a ≡ shown a ++ (10 ∷ [])
line_shown (Ok ns) = refl
line_shown (No c) = refl
line_shown (Bad f) = refl

-- the one cause that refuses to write bytes into a line
pub data LineCause (bytes line : List ℕ) : Refusal → Type 0 where
  short : length line < length bytes → LineCause bytes line ListTooShort

-- the line now holds the bytes, n of them, in its first places, and what it held in the places after them
pub record Holds (bytes old : List ℕ) (n : ℕ) (new : List ℕ) : Type 0 where
  pub count : n ≡ length bytes
  pub places : new ≡ bytes ++ drop n old

-- the bytes are written into the line; or they do not fit, and it stays as it was
abbrev pub Lined : List ℕ → List ℕ → List ℕ → Result ℕ Refusal → Type 0
Lined bytes old new r = Outcome (LineCause bytes old) (Holds bytes old) old r new
