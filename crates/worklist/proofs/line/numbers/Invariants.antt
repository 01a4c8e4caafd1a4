use Rattle.std.proofs.Common.{◌≡◌, ℕ, ◌-◌, List, ◌++◌, length, take}
use Rattle.worklist.specs.ReaderSteps.{NoNumbers, Numbers}
use Rattle.worklist.proofs.line.numbers.Given as goal

-- `s` writes the numbers found and then those that `rest` writes, and no others
abbrev pub invariant-loop-i : goal.invariant-loop-i
invariant-loop-i g l = record {
  size : length l.found ≡ g.row.N;
  some : (ns : List ℕ) → Numbers l.rest ns → Numbers l.s (take l.i l.found ++ ns);
  none : NoNumbers (g.row.N - l.i) l.rest → NoNumbers g.row.N l.s;
}
