-- The rows left, from here, give what all of them give. Assumes nothing.
use mathlib.Core.Path.{◌≡◌}
use Prim.Native.Nat.{◌-◌}
use Rattle.lookup.specs.Lookup.{row_with}
use Rattle.lookup.proofs.find_row.Given as goal

abbrev pub invariant-loop-i : goal.invariant-loop-i
invariant-loop-i l =
    row_with l.masks l.choice l.i (l.to - l.i) ≡ row_with l.masks l.choice l.from (l.to - l.from)
