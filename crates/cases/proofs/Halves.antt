-- Half-faces, by computation: joined, read alike, open.
use Rattle.std.proofs.Common.{◌≡◌, ℕ, ◌*◌, Bool, true, not, ◌&&◌, ltb, List, length, Some, sym, ◌∙◌}
use Rattle.std.proofs.lemmas.Bool.{and_parts, both_ways, ltb-true, not-true}
use Rattle.rules.specs.Readings.{reads, Alike}
use Rattle.rules.specs.Joins.{Joined, OnSkin, NoThree}
use Rattle.rules.specs.NetTests as N
use Rattle.rules.specs.NetTests.{meets, opposite}
use Rattle.rules.specs.Tests.{names}
use Rattle.rules.proofs.Exact.{named}
use Rattle.rules.proofs.Options.{some_eq}
use Rattle.rules.proofs.Opposites.{joined_faces, faces_joined}
use Rattle.rules.proofs.Rotated.{alike_so}
use Rattle.rules.proofs.TurnNets.{alike_true}
use Rattle.rules.proofs.Webbed.{meets_from, meets_to}
use Rattle.cases.proofs.Finite.{every, every_at, implies, implied}

-- h and g are joined
unfoldable pub joins : List (List ℕ) → ℕ → ℕ → Bool
joins rs h g = (ltb h (4 * length rs) && ltb g (4 * length rs)) && meets rs h g

pub joins_so : (rs : List (List ℕ)) (h g : ℕ) → joins rs h g ≡ true → Joined rs h g
unfolding joins
joins_so rs h g e =
    let a = and_parts (ltb h (4 * length rs) && ltb g (4 * length rs)) _ e in
    let b = and_parts (ltb h (4 * length rs)) _ a.0 in
    let m = meets_from rs h g a.1 in
    faces_joined rs h g (ltb-true h (4 * length rs) b.0) (ltb-true g (4 * length rs) b.1) m.0 m.1

-- half-faces that are joined meet
pub joined_meets : (rs : List (List ℕ)) (h g : ℕ) → Joined rs h g → meets rs h g ≡ true
joined_meets rs h g j = meets_to rs h g (λ q. j.other (sym q)) (joined_faces rs h g j)

pub reads_alike : (rs : List (List ℕ)) (h g : ℕ) → N.alike rs h g ≡ true → Alike (reads rs h) (reads rs g)
unfolding N.alike
reads_alike rs h g e = alike_so (reads rs h) (reads rs g) e

pub reads_opposed : (rs : List (List ℕ)) (h g : ℕ) → not (N.alike rs h g) ≡ true → Alike (reads rs h) (reads rs g) → ⊥
reads_opposed rs h g e a = both_ways (N.alike rs h g) (not-true _ e) (alike_true rs h g a)

-- h is open
unfoldable pub opens : List (List ℕ) → ℕ → Bool
opens rs h = ltb h (4 * length rs) && every (4 * length rs) (λ g. not (meets rs h g))

pub opens_so : (rs : List (List ℕ)) (h : ℕ) → opens rs h ≡ true → OnSkin rs h
unfolding opens
opens_so rs h e =
    let a = and_parts (ltb h (4 * length rs)) _ e in (
      ltb-true h (4 * length rs) a.0,
      (λ g j. both_ways (meets rs h g) (not-true _ (every_at (4 * length rs) (λ g. not (meets rs h g)) a.1 g j.there)) (joined_meets rs h g j)),
    )

-- whatever meets h is its opposite
unfoldable pub one_opposite : List (List ℕ) → ℕ → Bool
one_opposite rs h = let o = opposite rs h in every (4 * length rs) (λ g. implies (meets rs h g) (names o g))

-- no triangle is in three half-faces
unfoldable pub none_crowded : List (List ℕ) → Bool
none_crowded rs = every (4 * length rs) (one_opposite rs)

pub no_three : (rs : List (List ℕ)) → none_crowded rs ≡ true → NoThree rs
unfolding none_crowded one_opposite
no_three rs e h g k a b =
    let at = every_at (4 * length rs) (one_opposite rs) e h a.half in
    let is : (x : ℕ) → Joined rs h x → opposite rs h ≡ Some x = λ x j.
    named (opposite rs h) x (implied (meets rs h x) (names (opposite rs h) x) (every_at (4 * length rs) (λ g. implies (meets rs h g) (names (opposite rs h) g)) at x j.there) (joined_meets rs h x j)) in
    some_eq g k (sym (is g a) ∙ is k b)
