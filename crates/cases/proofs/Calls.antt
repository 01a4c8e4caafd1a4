-- The calls on a plain list, by computation: which cause comes first, and what an accepted call leaves.
use Rattle.std.proofs.Common.{◌≡◌, ℕ, ◌<◌, ◌≤◌, Bool, true, false, not, ◌&&◌, ltb, List, [], ◌∷◌, length, get_or, sym, refl, ◌∙◌, subst, arith}
use Rattle.std.proofs.lemmas.Bool.{and_parts, and_from, both_ways, ltb-true, ltb-false, not-true, false≢true}
use Rattle.refusal.specs.declared.Refusal.{Refusal}
use Rattle.refusal.specs.declared.Refusal.TheVariants.{VertexTooHigh, VerticesEqual, ListTooShort, EdgePlaceTooHigh, LineMalformed, WronglyClosed, TextTooLong, NoFreePlace, CellPresent, TriangleTaken, NoSuchNumber, NoLabelsAgree, InNoCell, HalfFaceJoined}
use Rattle.refusal.specs.Causes.{First, NoCause}
use Rattle.rules.specs.Rows.{row, In, SameVertices, TooHigh, Repeated}
use Rattle.rules.specs.Readings.{face, listed, SameTriangle}
use Rattle.rules.specs.Tests.{on, high_test, repeat_test}
use Rattle.rules.specs.NetTests.{same_three}
use Rattle.rules.specs.PlainList.{Plain, laid, lifted, turned, StandsIn, TriangleOf, CrowdedIn, LayCause}
use Rattle.rules.proofs.Causes.{first_high, first_equal, first_full, first_present, first_taken, no_cause, no_row_cause}
use Rattle.rules.proofs.Corners.{triangle_to, triangle_from, in_to, in_from}
use Rattle.rules.proofs.Judged.{high_so, not_high, repeat_so, not_repeated}
use Rattle.rules.proofs.Webbed.{on_reading, same_from, same_to}
use Rattle.cases.specs.Cases.{Call, Accepted, AllAccepted}
use Rattle.cases.specs.Cases.Call.{lay, lift, turn}
use Rattle.cases.proofs.Finite.{every, every_at, every_from, some, some_at, some_from}

-- ROWS AND TRIANGLES, BY TESTS

-- every vertex of x is one of y
unfoldable pub within : List ℕ → List ℕ → Bool
within x y = every 4 (λ k. on y 4 (get_or x k 0))

within_so : (x y : List ℕ) → within x y ≡ true → (v : ℕ) → In v x → In v y
unfolding within
within_so x y e v i = subst (λ (z : ℕ). In z y) (sym i.2) (in_from y (get_or x i.0 0) (every_at 4 (λ k. on y 4 (get_or x k 0)) e i.0 i.1))

within_to : (x y : List ℕ) → ((v : ℕ) → In v x → In v y) → within x y ≡ true
unfolding within
within_to x y f = every_from 4 (λ k. on y 4 (get_or x k 0)) (λ k l. in_to y (get_or x k 0) (f (get_or x k 0) (k, l, refl)))

-- x and y have the same four vertices
unfoldable pub same_row : List ℕ → List ℕ → Bool
same_row x y = within x y && within y x

row_so : (x y : List ℕ) → same_row x y ≡ true → SameVertices x y
unfolding same_row
row_so x y e v = let a = and_parts (within x y) (within y x) e in (within_so x y a.0 v, within_so y x a.1 v)

row_to : (x y : List ℕ) → SameVertices x y → same_row x y ≡ true
unfolding same_row
row_to x y s = and_from _ _ (within_to x y (λ v. (s v).0)) (within_to y x (λ v. (s v).1))

-- triangle i of x and triangle j of y have the same vertices
unfoldable pub same_face : List ℕ → ℕ → List ℕ → ℕ → Bool
same_face x i y j = same_three (listed (face x i)) (listed (face y j))

face_so : (x y : List ℕ) (i j : ℕ) → i < 4 → j < 4 → same_face x i y j ≡ true → SameTriangle (face x i) (face y j)
unfolding same_face
face_so x y i j li lj e = triangle_from x y i j li lj (λ v. on_reading x v i li ∙ same_from (listed (face x i)) (listed (face y j)) e v ∙ sym (on_reading y v j lj))

face_to : (x y : List ℕ) (i j : ℕ) → i < 4 → j < 4 → SameTriangle (face x i) (face y j) → same_face x i y j ≡ true
unfolding same_face
face_to x y i j li lj s = same_to (listed (face x i)) (listed (face y j)) (λ v. sym (on_reading x v i li) ∙ triangle_to x y i j li lj s v ∙ on_reading y v j lj)

-- THE CAUSES OF A LAY, BY TESTS

-- a row has the same four vertices as x
unfoldable pub stands : List (List ℕ) → List ℕ → Bool
stands rs x = some (length rs) (λ t. same_row (get_or rs t []) x)

stands_so : (rs : List (List ℕ)) (x : List ℕ) → stands rs x ≡ true → StandsIn rs x
unfolding stands
stands_so rs x e = let a = some_at (length rs) (λ t. same_row (get_or rs t []) x) e in (a.0, a.1, row_so (get_or rs a.0 []) x a.2)

stands_to : (rs : List (List ℕ)) (x : List ℕ) → StandsIn rs x → stands rs x ≡ true
unfolding stands
stands_to rs x s = some_from (length rs) (λ t. same_row (get_or rs t []) x) s.0 s.1 (row_to (get_or rs s.0 []) x s.2)

-- triangle i of x is one of the four of y
unfoldable pub has_face : List ℕ → ℕ → List ℕ → Bool
has_face x i y = some 4 (λ j. same_face x i y j)

has_so : (x : List ℕ) (i : ℕ) (y : List ℕ) → i < 4 → has_face x i y ≡ true → TriangleOf (face x i) y
unfolding has_face
has_so x i y l e = let a = some_at 4 (λ j. same_face x i y j) e in (a.0, a.1, face_so x y i a.0 l a.1 a.2)

has_to : (x : List ℕ) (i : ℕ) (y : List ℕ) → i < 4 → TriangleOf (face x i) y → has_face x i y ≡ true
unfolding has_face
has_to x i y l s = some_from 4 (λ j. same_face x i y j) s.0 s.1 (face_to x y i s.0 l s.1 s.2)

-- triangle i of x is in row u and in a row before it
unfoldable pub twice : List (List ℕ) → List ℕ → ℕ → ℕ → Bool
twice rs x i u = has_face x i (get_or rs u []) && some u (λ t. has_face x i (get_or rs t []))

unfoldable pub crowded : List (List ℕ) → List ℕ → Bool
crowded rs x = some 4 (λ i. some (length rs) (twice rs x i))

crowded_so : (rs : List (List ℕ)) (x : List ℕ) → crowded rs x ≡ true → CrowdedIn rs x
unfolding crowded twice
crowded_so rs x e =
    let a = some_at 4 (λ i. some (length rs) (twice rs x i)) e in
    let b = some_at (length rs) (twice rs x a.0) a.2 in
    let d = and_parts (has_face x a.0 (get_or rs b.0 [])) _ b.2 in
    let f = some_at b.0 (λ t. has_face x a.0 (get_or rs t [])) d.1 in
    (a.0, f.0, b.0, a.1, f.1, b.1, has_so x a.0 (get_or rs f.0 []) a.1 f.2, has_so x a.0 (get_or rs b.0 []) a.1 d.0)

crowded_to : (rs : List (List ℕ)) (x : List ℕ) → CrowdedIn rs x → crowded rs x ≡ true
unfolding crowded twice
crowded_to rs x s =
    let i = s.0 in
    let t = s.1 in
    let u = s.2 in
    some_from 4 (λ i. some (length rs) (twice rs x i)) i s.3
    (some_from (length rs) (twice rs x i) u s.5
    (and_from _ _ (has_to x i (get_or rs u []) s.3 s.7)
    (some_from u (λ t. has_face x i (get_or rs t [])) t s.4 (has_to x i (get_or rs t []) s.3 s.6))))

-- WHAT A LAY IS ANSWERED

-- the vertices of x are in range and differ
unfoldable pub fine : List ℕ → Bool
fine x = not (high_test x) && not (repeat_test x)

-- and a place is free
unfoldable pub roomy : Plain → List ℕ → Bool
roomy p x = fine x && ltb (length p.list) p.places

-- and no row has the same four
unfoldable pub fresh : Plain → List ℕ → Bool
fresh p x = roomy p x && not (stands p.list x)

fine_so : (x : List ℕ) → fine x ≡ true → (TooHigh x → ⊥) × (Repeated x → ⊥)
unfolding fine
fine_so x e = let a = and_parts (not (high_test x)) _ e in (not_high x (not-true _ a.0), not_repeated x (not-true _ a.1))

roomy_so : (p : Plain) (x : List ℕ) → roomy p x ≡ true → (fine x ≡ true) × (p.places ≤ length p.list → ⊥)
unfolding roomy
roomy_so p x e = let a = and_parts (fine x) _ e in let l = ltb-true (length p.list) p.places a.1 in (a.0, λ k. omega arith)

fresh_so : (p : Plain) (x : List ℕ) → fresh p x ≡ true → (roomy p x ≡ true) × (StandsIn p.list x → ⊥)
unfolding fresh
fresh_so p x e =
    let a = and_parts (roomy p x) _ e in
    (a.0, λ s. both_ways (stands p.list x) (not-true _ a.1) (stands_to p.list x s))

-- c is the first cause
unfoldable pub refused_with : Plain → List ℕ → Refusal → Bool
refused_with p x VertexTooHigh = high_test x
refused_with p x VerticesEqual = not (high_test x) && repeat_test x
refused_with p x NoFreePlace = fine x && not (ltb (length p.list) p.places)
refused_with p x CellPresent = roomy p x && stands p.list x
refused_with p x TriangleTaken = fresh p x && crowded p.list x
refused_with p x ListTooShort = false
refused_with p x EdgePlaceTooHigh = false
refused_with p x LineMalformed = false
refused_with p x WronglyClosed = false
refused_with p x TextTooLong = false
refused_with p x NoSuchNumber = false
refused_with p x NoLabelsAgree = false
refused_with p x InNoCell = false
refused_with p x HalfFaceJoined = false

pub refused_so : (p : Plain) (x : List ℕ) (c : Refusal) → refused_with p x c ≡ true → First (LayCause p x) c
unfolding refused_with
refused_so p x VertexTooHigh e = first_high p x (high_so x e)
refused_so p x VerticesEqual e = let a = and_parts (not (high_test x)) _ e in first_equal p x (not_high x (not-true _ a.0)) (repeat_so x a.1)
refused_so p x NoFreePlace e =
    let a = and_parts (fine x) _ e in
    let f = fine_so x a.0 in
    first_full p x f.0 f.1 (ltb-false (length p.list) p.places (not-true _ a.1))
refused_so p x CellPresent e =
    let a = and_parts (roomy p x) _ e in
    let b = roomy_so p x a.0 in
    let f = fine_so x b.0 in
    first_present p x f.0 f.1 b.1 (stands_so p.list x a.1)
refused_so p x TriangleTaken e =
    let a = and_parts (fresh p x) _ e in
    let d = fresh_so p x a.0 in
    let b = roomy_so p x d.0 in
    let f = fine_so x b.0 in
    first_taken p x f.0 f.1 b.1 d.1 (crowded_so p.list x a.1)
refused_so p x ListTooShort e = absurd (false≢true e)
refused_so p x EdgePlaceTooHigh e = absurd (false≢true e)
refused_so p x LineMalformed e = absurd (false≢true e)
refused_so p x WronglyClosed e = absurd (false≢true e)
refused_so p x TextTooLong e = absurd (false≢true e)
refused_so p x NoSuchNumber e = absurd (false≢true e)
refused_so p x NoLabelsAgree e = absurd (false≢true e)
refused_so p x InNoCell e = absurd (false≢true e)
refused_so p x HalfFaceJoined e = absurd (false≢true e)

-- no cause applies
unfoldable pub layable : Plain → List ℕ → Bool
layable p x = fresh p x && not (crowded p.list x)

pub layable_so : (p : Plain) (x : List ℕ) → layable p x ≡ true → NoCause (LayCause p x)
unfolding layable
layable_so p x e =
    let a = and_parts (fresh p x) _ e in
    let d = fresh_so p x a.0 in
    let b = roomy_so p x d.0 in
    let f = fine_so x b.0 in
    no_cause p x f.0 f.1 b.1 d.1 (λ s. both_ways (crowded p.list x) (not-true _ a.1) (crowded_to p.list x s))

-- ACCEPTED CALLS

unfoldable pub accepts : Plain → Call → Bool
accepts p (lay a b c d) = layable p (row a b c d)
accepts p (lift t) = ltb t (length p.list)
accepts p (turn t) = ltb t (length p.list)

unfoldable pub next : Plain → Call → Plain
next p (lay a b c d) = laid p (row a b c d)
next p (lift t) = lifted p t
next p (turn t) = turned p t

accepted : (p : Plain) (c : Call) → accepts p c ≡ true → Accepted c p (next p c)
unfolding accepts next
accepted p (lay a b c d) e = (layable_so p (row a b c d) e, (refl, refl))
accepted p (lift t) e = (no_row_cause p t (ltb-true t (length p.list) e), refl)
accepted p (turn t) e = (no_row_cause p t (ltb-true t (length p.list) e), refl)

unfoldable pub accepts_all : Plain → List Call → Bool
accepts_all p [] = true
accepts_all p (c ∷ cs) = accepts p c && accepts_all (next p c) cs

unfoldable pub last : Plain → List Call → Plain
last p [] = p
last p (c ∷ cs) = last (next p c) cs

pub all_accepted : (p : Plain) (cs : List Call) → accepts_all p cs ≡ true → AllAccepted cs p (last p cs)
unfolding accepts_all last
all_accepted p [] e = refl
all_accepted p (c ∷ cs) e = let a = and_parts (accepts p c) _ e in (next p c, accepted p c a.0, all_accepted (next p c) cs a.1)
