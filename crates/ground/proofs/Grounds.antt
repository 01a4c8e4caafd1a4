-- What stands of the records as a record of facts, and the plain list of a ground.
use Rattle.std.proofs.Common.{◌≡◌, ℕ, ◌+◌, ◌*◌, ◌<◌, ◌≤◌, List, length, get_or, None, sym, ◌∙◌, subst, arith}
use Rattle.ground.specs.declared.cell.Cell.{Cell}
use Rattle.ground.specs.declared.cells.Cells.{Cells}
use Rattle.rules.specs.PlainList.{Plain}
use Rattle.rules.specs.Tests.{on_face}
use Rattle.ground.specs.Grounds.{rows_of}
use Rattle.ground.specs.Records.{rows, join_at, blank, Near, AllNear}
use Rattle.ground.specs.Searches.{Standing}
use Rattle.ground.proofs.Records.{length_rows}
use Rattle.ground.proofs.Turned.{Facts, exact_of, near_of, other_of, same_of, whole_of, near_some, join_at_lem}

pub standing_of : (cs : List Cell) (n : ℕ) → Facts cs n → Standing cs n
standing_of cs n f =
    let F = on_face (rows cs n) in
    let J = join_at cs in
    let e = f.exact in
    record {
      room = f.room;
      law = record { below = f.below; differ = f.differ; near = near_of F (4 * n) J e; other = other_of F (4 * n) J e; same = same_of F (4 * n) J e; whole = whole_of F (4 * n) J e };
      apart = f.apart;
      four = f.four;
    }

pub facts_of : (cs : List Cell) (n : ℕ) → Standing cs n → Facts cs n
facts_of cs n s = record {
  room = s.room;
  below = s.law.below;
  differ = s.law.differ;
  apart = s.apart;
  four = s.four;
  exact = exact_of (on_face (rows cs n)) (4 * n) (join_at cs) s.law.near s.law.other s.law.same s.law.whole;
}

pub facts : (g : Cells) → Facts g.records.now g.count
facts g = facts_of g.records.now g.count g.standing

-- what a cell is joined to has a record
near_join : (cs : List Cell) (n t i : ℕ) → Facts cs n → t < n → i < 4 → Near (length cs) (get_or (get_or cs t blank).joins i None)
near_join cs n t i f h k = near_some (length cs) _ (λ w p.
    let q : w < 4 * n = f.exact.near (4 * t + i) w (omega arith) (join_at_lem cs (4 * t + i) t i (omega arith) (omega arith) ∙ p) in
    let r = f.room in omega arith)

pub near_all : (cs : List Cell) (n t : ℕ) → Facts cs n → t < n → AllNear (length cs) (get_or cs t blank).joins
near_all cs n t f h =
    let at = λ (i : ℕ) (k : i < 4). near_join cs n t i f h k in
    (at 0 (omega arith), at 1 (omega arith), at 2 (omega arith), at 3 (omega arith))

pub many : (g : Cells) → length (rows_of g) ≡ g.count
many g = length_rows g.records.now g.count g.standing.room

pub same_plain : (l l' : List (List ℕ)) (m m' k k' : ℕ) → l ≡ l' → m ≡ m' → k ≡ k' → ◌≡◌ {A = Plain} (record { list = l; places = m; changes = k }) (record { list = l'; places = m'; changes = k' })
same_plain l l' m m' k k' p q r = cc

-- what a write leaves: its records cs' are those of a list cs that has the facts
pub standing_so : (cs cs' : List Cell) (n n' : ℕ) → cs' ≡ cs → n' ≡ n → Facts cs n → Standing cs' n'
standing_so cs cs' n n' p q f = standing_of cs' n' (subst (Facts cs') (sym q) (subst (λ (z : List Cell). Facts z n) (sym p) f))

pub few_so : (old new : List Cell) → length new ≡ length old → length old ≤ 1024 → length new ≤ 1024
few_so old new p l = omega arith
