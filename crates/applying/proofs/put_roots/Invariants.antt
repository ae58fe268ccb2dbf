-- `applying::put_roots` meets its contract. The loop's invariant: the first i keys are those of the first i roots. Assumes nothing.
use mathlib.Core.Path.{◌≡◌}
use Prim.Native.Nat.{ℕ, ◌<◌}
use lib.ListN.{get_or}
use Rattle.gates.specs.Key.{plain, stored}
use Rattle.applying.proofs.put_roots.Given as goal

abbrev pub invariant-loop-i : goal.invariant-loop-i
invariant-loop-i l =
    (j : ℕ) → j < l.i → get_or l.cur j 0 ≡ stored (plain j)
