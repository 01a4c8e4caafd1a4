-- What stands of the records, as a question tells it, and what the tests list.
use Rattle.std.proofs.Common.{◌≡◌, ℕ, ◌*◌, ◌<◌, ◌≤◌, true, List, [], length, get_or, Some, None, Ok, Err, Option, Result, sym, refl, ap, ◌∙◌, subst, arith}
use Rattle.std.proofs.lemmas.Bool.{lt-ltb, ltb-true, false≢true, and_parts, and_from}
use Rattle.refusal.specs.declared.Refusal.{Refusal}
use Rattle.rules.specs.Rows.{In}
use Rattle.rules.specs.Joins.{Joined, OnSkin, Lower, NoThree, OppositeIs, LawfulRows}
use Rattle.rules.specs.Listings.{Listing}
use Rattle.rules.specs.Questions.{TellsOpposite, OnlyOpposite, HalfCause, AtVertex, AtEdge}
use Rattle.rules.specs.Questions.HalfCause.{absent}
use Rattle.rules.specs.Tests.{on, picks}
use Rattle.rules.proofs.Corners.{in_to, in_from, vertices_to}
use Rattle.rules.proofs.Listed.{listed_as, listing_as}
use Rattle.ground.specs.declared.cell.Cell.{Cell}
use Rattle.ground.specs.Records.{rows, join_at, blank}
use Rattle.ground.specs.Searches.{Lawful, Standing}
use Rattle.ground.specs.Listed.{has_both, none_there, higher_there, open_at, lower_at}
use Rattle.ground.proofs.Records.{length_rows, rows_at}
use Rattle.ground.proofs.Joining.{joined_sym, joined_one, half_in, joined_to, joined_from, skin_from}

-- the rows of cells in use are as the rules have them
pub lawful : (cs : List Cell) (n : ℕ) → Standing cs n → LawfulRows (rows cs n)
lawful cs n s = record {
  low = λ t l h. omega (arith, s.law.below t h.0 (l, h.1), h.2);
  differ = λ t l h. s.law.differ t h.0 h.1 (l, h.2, h.3, h.4);
  apart = λ t u l k e. s.apart t u (l, k, vertices_to (get_or (rows cs n) t []) (get_or (rows cs n) u []) e);
  no_three = joined_one cs n s.room s.law;
}

pub opposite_so : (cs : List Cell) (n : ℕ) (s : Standing cs n) (h : ℕ) (o : Option ℕ) → h < 4 * n → o ≡ join_at cs h → OppositeIs (rows cs n) h o
opposite_so cs n s h None l e = skin_from cs n s.room s.law h l (sym e)
opposite_so cs n s h (Some k) l e = joined_from cs n s.room s.law h k l (sym e)

-- the opposite is one, and leads back
module _ (rs : List (List ℕ)) (one : NoThree rs) where
  module _ (h k : ℕ) (j : Joined rs h k) where
    back : (r : Result (Option ℕ) Refusal) → TellsOpposite rs k r → r ≡ Ok (Some h)
    back (Ok (Some m)) t = ap (λ (x : ℕ). Ok (Some x)) (one k m h t.1 (joined_sym rs h k j))
    back (Ok None) t = absurd (t.1.1 h (joined_sym rs h k j))
    back (Err e) t = absurd (refused e t.applies)
      where
        refused : (e : Refusal) → HalfCause rs k e → ⊥
        refused _ (absent p) = let q = j.there in omega arith

  pub only_so : (h : ℕ) (o : Option ℕ) → OppositeIs rs h o → OnlyOpposite rs h (Ok o)
  only_so h None p = tt
  only_so h (Some k) p = (λ m j. one h m k j p, back h k p)

none_so : (o : Option ℕ) → none_there o ≡ true → o ≡ None
none_so None p = refl
none_so (Some g) p = absurd (false≢true p)

none_from : (o : Option ℕ) → ((g : ℕ) → o ≡ Some g → ⊥) → none_there o ≡ true
none_from None f = refl
none_from (Some g) f = absurd (f g refl)

higher_so : (o : Option ℕ) (h : ℕ) → higher_there o h ≡ true → (g : ℕ) × (o ≡ Some g) × (h < g)
higher_so None h p = absurd (false≢true p)
higher_so (Some g) h p = (g, refl, ltb-true h g p)

module _ (cs : List Cell) (n : ℕ) (room : n ≤ length cs) (law : Lawful cs n) where
  pub skin_listed : Listing (OnSkin (rows cs n)) (picks (open_at cs) (4 * n))
  unfolding open_at
  skin_listed = listed_as (open_at cs) (4 * n) (OnSkin (rows cs n))
      (λ h l p. skin_from cs n room law h l (none_so (join_at cs h) p))
      (λ h o. let l = half_in cs n room law h o.0 in (l, none_from (join_at cs h) (λ g p. o.1 g (joined_from cs n room law h g l p))))

  pub lower_listed : Listing (Lower (rows cs n)) (picks (lower_at cs) (4 * n))
  unfolding lower_at
  lower_listed = listed_as (lower_at cs) (4 * n) (Lower (rows cs n))
      (λ h l p. let w = higher_so (join_at cs h) h p in (w.0, joined_from cs n room law h w.0 l w.1, w.2))
      (λ h w. (half_in cs n room law h w.1.half, ap (λ (o : Option ℕ). higher_there o h) (joined_to cs n room law h w.0 w.1) ∙ lt-ltb h w.0 w.2))

module _ (cs : List Cell) (n : ℕ) (room : n ≤ length cs) where
  pub edge_listed : (v w : ℕ) → Listing (AtEdge (rows cs n) v w) (picks (has_both cs v w) n)
  unfolding has_both
  edge_listed v w = listed_as (has_both cs v w) n (AtEdge (rows cs n) v w)
      (λ t l p.
      let q = and_parts (on (get_or cs t blank).corners 4 v) (on (get_or cs t blank).corners 4 w) p in
      let e = sym (rows_at cs n t room l) in
      (omega (arith, length_rows cs n room), subst (In v) e (in_from (get_or cs t blank).corners v q.0), subst (In w) e (in_from (get_or cs t blank).corners w q.1)))
      (λ t a.
      let l : t < n = omega (arith, a.0, length_rows cs n room) in
      let e = rows_at cs n t room l in
      (l, and_from (on (get_or cs t blank).corners 4 v) (on (get_or cs t blank).corners 4 w) (in_to (get_or cs t blank).corners v (subst (In v) e a.1)) (in_to (get_or cs t blank).corners w (subst (In w) e a.2))))

  pub star_listed : (v : ℕ) → Listing (AtVertex (rows cs n) v) (picks (has_both cs v v) n)
  star_listed v = listing_as (AtEdge (rows cs n) v v) (AtVertex (rows cs n) v) (picks (has_both cs v v) n) (λ t a. (a.0, a.1)) (λ t a. (a.0, a.1, a.1)) (edge_listed v v)
