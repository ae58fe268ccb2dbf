-- What is collected, with the choices of the rows left, is what all of them have. Assumes nothing.
use mathlib.Core.Path.{◌≡◌}
use Prim.Native.Nat.{◌-◌}
use lib.Bits.{bit_or}
use Rattle.lookup.specs.Lookup.{union_of}
use Rattle.lookup.proofs.union_of.Given as goal

abbrev pub invariant-loop-row : goal.invariant-loop-row
invariant-loop-row l =
    bit_or l.all (union_of l.masks l.row (l.to - l.row)) ≡ union_of l.masks l.from (l.to - l.from)
