-- The pass stops for each state at the first row of a state that is not smaller: as many rows are of smaller states. Assumes nothing.
use mathlib.Core.Path.{◌≡◌}
use Prim.Native.Nat.{ℕ, ◌-◌, ◌≤◌, ◌<◌}
use lib.ListN.{length}
use Rattle.tables.specs.States.{state_row}
use Rattle.tables.specs.Unpack.{Begun}
use Rattle.tables.proofs.fill_first.Given as goal

abbrev pub invariant-loop-s : goal.invariant-loop-s
invariant-loop-s l = record {
  within : l.i ≤ l.total;
  long : length l.first ≡ length l.initial.first;
  begun : Begun l.rows l.total l.s l.first;
  low : (j : ℕ) → j < l.i → state_row l.rows j < l.s;
}

abbrev pub invariant-loop-i : goal.invariant-loop-i
invariant-loop-i l = record {
  within : l.i ≤ l.total;
  low : (j : ℕ) → j < l.i → state_row l.rows j < l.s;
}

abbrev pub decreases-loop-i : goal.decreases-loop-i
decreases-loop-i l = l.total - l.i
