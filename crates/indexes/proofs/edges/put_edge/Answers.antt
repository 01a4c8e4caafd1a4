use Rattle.std.proofs.Common.{ℕ, Some, Option, sym, subst}
use Rattle.halves.specs.HalfFaces.{rows_of}
use Rattle.index.specs.Held.{held, Stored}
use Rattle.index.specs.Keys.{pair_order}
use Rattle.indexes.specs.Edges.{RatherHalf}
use Rattle.indexes.specs.Gathered.{Chosen}
use Rattle.index.specs.KeyLemmas.{pair_total}
use Rattle.indexes.proofs.Offers.{not_refused, stored, room_left}
use Rattle.indexes.proofs.EdgePairs.{chosen_side}
use Rattle.indexes.proofs.edges.put_edge.Goals as goal
use Rattle.indexes.proofs.edges.put_edge.Goals.{in-None, in-Some}

pub unwrap-requires : goal.unwrap-requires
unwrap-requires c = not_refused pair_order _ (held c.args.index.now) (held c.put.new.self) c.put.result c.requires.room c.put.ensures

pub returns : goal.returns
returns c =
    let rs = rows_of c.args.f in
    let before = held c.args.index.now in
    let after = held c.put.new.self in
    let s : Stored pair_order (record { key = c.args.key; half_face = c.match-find.half_face }) before after = stored pair_order _ before after c.put.result c.unwrap.result c.unwrap.ensures c.put.ensures in
    let found : Chosen (RatherHalf rs) c.find.result c.args.f.number c.match-find.half_face =
    elim c.match-find.branch [
      | in-None w ↦ subst (λ (o : Option ℕ). Chosen (RatherHalf rs) o c.args.f.number c.match-find.half_face) (sym w.in-None.is) w.half_face-is
      | in-Some w ↦ subst (λ (o : Option ℕ). Chosen (RatherHalf rs) o c.args.f.number c.match-find.half_face) (sym w.in-Some.is)
          (subst (Chosen (RatherHalf rs) (Some w.in-Some.number) c.args.f.number) (sym w.half_face-is)
          (chosen_side rs w.in-Some.number c.args.f.number w.side.result w.side-in-Some.result w.stands.result
          w.side.ensures.same w.side.ensures.skin w.side-in-Some.ensures.same w.side-in-Some.ensures.skin w.stands.ensures))
    ] in
    record {
      offered = record {
        chosen = c.match-find.half_face;
        right = subst (λ (o : Option ℕ). Chosen (RatherHalf rs) o c.args.f.number c.match-find.half_face) c.find.ensures found;
        found = s.put;
        others = s.others;
      };
      room = room_left pair_total _ before after s;
    }
