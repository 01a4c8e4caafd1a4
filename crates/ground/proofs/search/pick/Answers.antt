use Rattle.std.proofs.Common.{◌≡◌, ℕ, ◌+◌, ◌%◌, Bool, true, false, cond, Some, None, Option, refl, sym, ap, ◌∙◌, rules, tests, arith, List}
use Rattle.std.specs.List.{find, range_with_len}
use Rattle.std.specs.Option.{option_or}
use Rattle.std.proofs.lemmas.Iterator.Adapters.{option_map_id}
use Rattle.std.proofs.lemmas.Iterator.{YieldsList-from_range}
use Rattle.std.proofs.lemmas.Iterator.Search.{find_from_yields_List}
use Rattle.ground.specs.Searches.{same_face, picked}
use Rattle.ground.proofs.search.pick.Goals as goal

or_cond : (b : Bool) (g : ℕ) (r o : Option ℕ) → option_or (cond b (Some g) r) o ≡ cond b (Some g) (option_or r o)
or_cond true g r o = refl
or_cond false g r o = refl

-- the first of a row's four half-faces that passes, as it is picked
first_picked : (o : Option ℕ) (x : List ℕ) (i : ℕ) (y : List ℕ) (h : ℕ) → h % 4 ≡ 0 → option_or (find (λ g. same_face x i y (g % 4)) (range_with_len h 4)) o ≡ picked o x i y h
first_picked o x i y h e =
    let f = λ (g : ℕ). same_face x i y (g % 4) in
    let a = or_cond (f h) h (find f (range_with_len (h + 1) 3)) o in
    let b = or_cond (f (h + 1)) (h + 1) (find f (range_with_len (h + 1 + 1) 2)) o in
    let c = or_cond (f (h + 1 + 1)) (h + 1 + 1) (find f (range_with_len (h + 1 + 1 + 1) 1)) o in
    let d = or_cond (f (h + 1 + 1 + 1)) (h + 1 + 1 + 1) None o in
    let at0 : f h ≡ same_face x i y 0 = ap (same_face x i y) e in
    let at1 : f (h + 1) ≡ same_face x i y 1 = ap (same_face x i y) (omega arith) in
    let at2 : f (h + 1 + 1) ≡ same_face x i y 2 = ap (same_face x i y) (omega arith) in
    let at3 : f (h + 1 + 1 + 1) ≡ same_face x i y 3 = ap (same_face x i y) (omega arith) in
    let two : h + 1 + 1 ≡ h + 2 = omega arith in
    let three : h + 1 + 1 + 1 ≡ h + 3 = omega arith in
    cc

pub returns : goal.returns
returns c =
    let h = c.args.h in
    let found = find_from_yields_List (λ g. same_face c.args.x c.args.i c.args.y (g % 4)) _ _ c.find.result c.find.ensures.ran (YieldsList-from_range h (h + 4) 4 (cc) (omega arith)) (λ g b q k. search (rules, tests)) in
    c.or.ensures ∙ ap (λ (z : Option ℕ). option_or z c.args.before) (sym (option_map_id c.find.result) ∙ found)
    ∙ first_picked c.args.before c.args.x c.args.i c.args.y h c.requires.1
