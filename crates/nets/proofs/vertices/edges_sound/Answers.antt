use Rattle.std.proofs.Common.{◌≡◌, ℕ, ◌<◌, ◌↔◌, true, [], length, get_or, refl, sym, ◌∙◌, subst, rules}
use Rattle.std.proofs.lemmas.Iterator.{cases_from_all, YieldsList-from_slice}
use Rattle.std.proofs.lemmas.List.{get_or_default}
use Rattle.std.proofs.lemmas.Iterator.Adapters.{serves_from_places}
use Rattle.rules.specs.Rows.{corner}
use Rattle.rules.specs.Soundness.{Edge, EdgeSound}
use Rattle.rules.proofs.Sounding.{by_cells}
use Rattle.ground.specs.Grounds.{plain_sealed}
use Rattle.nets.proofs.Each.{all_of}
use Rattle.nets.proofs.vertices.edges_sound.Goals as goal

pub all-requires-clause-callable : goal.all-requires-clause-callable
all-requires-clause-callable c =
    let rs = (plain_sealed c.args.ground.now).list in
    let ks = c.args.cells.now in
    serves_from_places (YieldsList-from_slice ks cc) (λ x q k. search rules)
    (λ x k l e. let low = subst (λ t. t < length rs) (get_or_default ks k 0 x.now l ∙ sym e) (c.requires.sound k l).0 in search rules)

pub returns : goal.returns
returns c =
    let rs = (plain_sealed c.args.ground.now).list in
    let ks = c.args.cells.now in
    let P : ℕ → Type 0 = λ t. (i : ℕ) → i < 4 → Edge rs c.args.v (corner (get_or rs t []) i) → EdgeSound rs c.args.v (corner (get_or rs t []) i) in
    let each : (c.all.result ≡ true) ↔ ((k : ℕ) → k < length ks → P (get_or ks k 0)) = all_of P c.all.result ks (length ks) (λ k. get_or ks k 0) refl (λ k l. refl)
    (cases_from_all _ _ c.all.result P (λ t. P t → ⊥) c.all.ensures.ran (YieldsList-from_slice ks cc) (λ t q k. search rules) (λ t q k. search rules)) in
    ((λ q. by_cells rs c.args.v ks c.requires (λ k i l j. each.0 q k l i j)), (λ f. each.1 (λ k l i j. f (corner (get_or rs (get_or ks k 0) []) i))))
