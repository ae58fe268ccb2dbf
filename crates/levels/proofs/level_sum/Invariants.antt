-- The sum so far and that of the levels left come to the sum of all. Assumes nothing.
use mathlib.Core.Path.{◌≡◌}
use Prim.Native.Nat.{◌+◌, ◌*◌, ◌≤◌}
use Rattle.automata.specs.Sets.{sum}
use Rattle.stored.specs.Form.{set_of}
use Rattle.levels.proofs.LevelLaws.{counts_below}
use Rattle.levels.proofs.level_sum.Given as goal

abbrev pub invariant-loop-above : goal.invariant-loop-above
invariant-loop-above l =
    (l.total ≤ l.above * 65535) × (l.total + sum (counts_below l.s l.n l.above) ≡ sum (set_of l.s).counts)
