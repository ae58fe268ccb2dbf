-- No row so far passes. Assumes nothing.
use Rattle.std.proofs.Common.{◌≡◌, false, ℕ, ◌<◌, ◌≤◌}
use Rattle.hinting.proofs.any_row.Given as goal

abbrev pub invariant-loop-i : goal.invariant-loop-i
invariant-loop-i g l =
    (j : ℕ) → l.from ≤ j → j < l.i → goal.F-post g l.passes j false
