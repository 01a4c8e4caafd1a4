use Rattle.std.proofs.Common.{◌≡◌, ℕ, ◌<◌, length, get_or}
use Rattle.skin.proofs.build.item_numbers.Given as goal

abbrev pub invariant-loop-i : goal.invariant-loop-i
invariant-loop-i l = (length l.items ≡ 4096) × ((j : ℕ) → j < l.i → get_or l.items (get_or l.triangles j 0) 0 ≡ j)
