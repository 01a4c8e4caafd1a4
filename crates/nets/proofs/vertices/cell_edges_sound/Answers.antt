use Rattle.std.proofs.Common.{◌≡◌, ℕ, ◌+◌, ◌*◌, ◌/◌, ◌<◌, List, [], get_or, ap, ◌∙◌, arith, rules}
use Rattle.std.proofs.lemmas.Iterator.{cases_from_all, YieldsList-from_slice}
use denote.Ref.{Bor}
use Rattle.ground.specs.declared.stage.Sealed.{Sealed}
use Rattle.ground.specs.Grounds.{plain_sealed}
use Rattle.rules.specs.Rows.{corner, vertices}
use Rattle.rules.specs.Soundness.{Edge, EdgeSound}
use Rattle.rules.proofs.Told.{vertices_corner}
use Rattle.halves.specs.declared.half_face.HalfFace.{HalfFace}
use Rattle.halves.specs.HalfFaces.{rows_of}
use Rattle.halves.proofs.Grounds.{said_of}
use Rattle.nets.proofs.Each.{all_of}
use Rattle.nets.proofs.vertices.cell_edges_sound.Goals as goal

-- the vertices of a cell, by its first half-face
cell_vertices : (sealed : Bor Sealed) (t : ℕ) (f : HalfFace) → f.ground ≡ sealed → f.number ≡ 4 * t + 0 → (row : List ℕ) → row ≡ vertices (get_or (rows_of f) (f.number / 4) [])
    → (i : ℕ) → i < 4 → get_or row i 0 ≡ corner (get_or (plain_sealed sealed.now).list t []) i
cell_vertices sealed t f g n row e i l =
    let first : (4 * t + 0) / 4 ≡ t = omega arith in
    let whole = said_of (λ (rs : List (List ℕ)) (h : ℕ). row ≡ vertices (get_or rs (h / 4) [])) f sealed (4 * t + 0) g n e in
    ap (λ (y : List ℕ). get_or y i 0) (whole ∙ ap (λ (k : ℕ). vertices (get_or (plain_sealed sealed.now).list k [])) first) ∙ vertices_corner (get_or (plain_sealed sealed.now).list t []) i l

pub returns : goal.returns
returns c =
    let rs = (plain_sealed c.args.ground.now).list in
    let row = c.corners-row.result in
    let at = c.in-Some.ensures in
    let P : ℕ → Type 0 = λ w. Edge rs c.args.v w → EdgeSound rs c.args.v w in
    all_of P c.all.result row 4 (corner (get_or rs c.args.t [])) (omega arith)
    (cell_vertices c.args.ground c.args.t c.in-Some.half_face at.0 at.1 row c.corners-row.ensures)
    (cases_from_all _ _ c.all.result P (λ w. P w → ⊥) c.all.ensures.ran (YieldsList-from_slice row cc) (λ w q k. search rules) (λ w q k. search rules))
