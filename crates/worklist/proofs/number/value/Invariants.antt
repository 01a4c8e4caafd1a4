use Rattle.std.proofs.Common.{◌≡◌, ◌≤◌, drop}
use Rattle.std.specs.Str.{all_ascii_digits}
use Rattle.worklist.specs.ReaderSteps.{read_on}
use Rattle.worklist.proofs.number.value.Given as goal

abbrev pub invariant-loop-b : goal.invariant-loop-b
invariant-loop-b l =
    (all_ascii_digits l.s ≡ all_ascii_digits (drop l.b-index l.s)) × (read_on 0 l.s ≡ read_on l.v (drop l.b-index l.s))
    × (l.b-index ≤ 0 → l.v ≤ 0) × (l.b-index ≤ 1 → l.v ≤ 9) × (l.b-index ≤ 2 → l.v ≤ 99) × (l.b-index ≤ 3 → l.v ≤ 999)
    × (l.b-index ≤ 4 → l.v ≤ 9999) × (l.b-index ≤ 5 → l.v ≤ 99999)
