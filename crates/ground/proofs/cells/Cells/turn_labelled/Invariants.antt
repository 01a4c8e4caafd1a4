use Rattle.std.proofs.Common.{◌≡◌, ◌≤◌, length, get_or, take}
use Rattle.carry.specs.declared.turn.Turn.TheVariants.{Straight, Turned}
use Rattle.carry.specs.Counting.{Counts}
use Rattle.rules.specs.Nets.{turned_by}
use Rattle.ground.specs.Grounds.{rows_of}
use Rattle.ground.proofs.cells.Cells.turn_labelled.Given as goal

abbrev pub invariant-loop-t : goal.invariant-loop-t
invariant-loop-t l = record {
  same : l.self.count ≡ l.initial.self.count;
  places : length l.self.records.now ≡ length l.initial.self.records.now;
  list : rows_of l.self ≡ turned_by (take l.t l.fn.labels) (rows_of l.initial.self);
  counts : Counts (λ t. get_or l.fn.labels t Straight ≡ Turned) l.t l.turned;
  few : l.turned ≤ l.t;
}
