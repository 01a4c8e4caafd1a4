use Rattle.std.proofs.Common.{ℕ, ◌+◌, ◌<◌, ◌≤◌, length}
use Rattle.ground.specs.Grounds.{plain_sealed}
use Rattle.index.specs.declared.keys.Triple.{Triple}
use Rattle.index.specs.Held.{held}
use Rattle.indexes.specs.Faces.{OnTriangle}
use Rattle.indexes.specs.Gathered.{FacesBefore}
use Rattle.indexes.proofs.faces.gather_faces.Given as goal

abbrev pub invariant-loop-h : goal.invariant-loop-h
invariant-loop-h l = record {
  gathered : FacesBefore (plain_sealed l.ground).list l.h (held l.index).entries;
  room : 4096 ≤ length (held l.index).free + l.h;
  each : (g : ℕ) → g < l.h → (k : Triple) × OnTriangle (plain_sealed l.ground).list k g;
}
