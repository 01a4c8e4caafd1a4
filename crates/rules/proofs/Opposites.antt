-- The lowest other half-face on a triangle is the opposite, where no triangle is in three half-faces.
use Rattle.std.proofs.Common.{◌≡◌, ℕ, ◌+◌, ◌*◌, ◌/◌, ◌%◌, List, [], length, get_or, Some, Option, sym, refl, ap, ◌∙◌, ⊎_elim, arith}
use Rattle.std.proofs.lemmas.Bool.{both_ways}
use Rattle.rules.specs.Joins.{Half, Joined, NoThree}
use Rattle.rules.specs.Nets.{CellWeb}
use Rattle.rules.specs.Tests.{on_face}
use Rattle.rules.specs.NetTests.{lowest, meets, opposite, cell_web}
use Rattle.rules.proofs.Corners.{triangle_to, triangle_from}
use Rattle.rules.proofs.Exact.{Exact}
use Rattle.rules.proofs.Webbed.{lowest_some, lowest_none, meets_from, meets_to, cases_option, opposite_is, joined_from, joined_to}

pub joined_faces : (rs : List (List ℕ)) (h g : ℕ) → Joined rs h g → (v : ℕ) → on_face rs h v ≡ on_face rs g v
joined_faces rs h g j = triangle_to (get_or rs (h / 4) []) (get_or rs (g / 4) []) (h % 4) (g % 4) (omega arith) (omega arith) j.same

pub faces_joined : (rs : List (List ℕ)) (h g : ℕ) → Half rs h → Half rs g → (g ≡ h → ⊥) → ((v : ℕ) → on_face rs h v ≡ on_face rs g v) → Joined rs h g
faces_joined rs h g l k ne s = record {
  half = l;
  there = k;
  other = λ e. ne (sym e);
  same = triangle_from (get_or rs (h / 4) []) (get_or rs (g / 4) []) (h % 4) (g % 4) (omega arith) (omega arith) s;
}

pub joined_sym : (rs : List (List ℕ)) (h g : ℕ) → Joined rs h g → Joined rs g h
joined_sym rs h g j = record { half = j.there; there = j.half; other = λ e. j.other (sym e); same = λ v. ((j.same v).1, (j.same v).0) }

pub opposite_joined : (rs : List (List ℕ)) (h g : ℕ) → Half rs h → opposite rs h ≡ Some g → Joined rs h g
unfolding opposite
opposite_joined rs h g l e =
    let a = lowest_some (meets rs h) (4 * length rs) g e in
    let m = meets_from rs h g a.1 in
    faces_joined rs h g l a.0 m.0 m.1

-- exact joins are those of the rows
pub opposite_of : (rs : List (List ℕ)) (J : ℕ → Option ℕ) → Exact (on_face rs) (4 * length rs) J → (h g : ℕ) → Joined rs h g → opposite rs h ≡ Some g
opposite_of rs J e h g j = opposite_is rs J e h j.half ∙ e.whole h g j.half j.there (λ q. j.other (sym q)) (joined_faces rs h g j)

module _ (rs : List (List ℕ)) (n : NoThree rs) where
  pub rows_exact : Exact (on_face rs) (4 * length rs) (opposite rs)
  unfolding opposite
  rows_exact = record {
    near = λ h g l e. (opposite_joined rs h g l e).there;
    other = λ h g l e q. (opposite_joined rs h g l e).other (sym q);
    same = λ h g l e. joined_faces rs h g (opposite_joined rs h g l e);
    whole = λ h g l k ne s.
        ⊎_elim
        (λ z. absurd (both_ways (meets rs h g) (lowest_none (meets rs h) (4 * length rs) z g k) (meets_to rs h g ne s)))
        (λ t. t.1 ∙ ap Some (n h t.0 g (opposite_joined rs h t.0 l t.1) (faces_joined rs h g l k ne s)))
        (cases_option (lowest (meets rs h) (4 * length rs)));
  }

  pub joined_opposite : (h g : ℕ) → Joined rs h g → opposite rs h ≡ Some g
  joined_opposite = opposite_of rs (opposite rs) rows_exact

  pub cell_web_is : (m : ℕ) (f : ℕ → ℕ → ℕ) → CellWeb rs (cell_web rs m f)
  cell_web_is m f = record {
    items = refl;
    sides = refl;
    joins = λ i s p. (
      (λ e. let r = joined_from rs i s p e in record { item = r.0; side = r.1; entered = r.3; joined = opposite_joined rs (4 * i + s) (4 * p.item + p.side) (omega arith) r.2 }),
      (λ j. joined_to rs i s p.item p.side j.item j.side j.entered (joined_opposite (4 * i + s) (4 * p.item + p.side) j.joined)),
    );
  }
