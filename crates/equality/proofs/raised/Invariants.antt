-- After so many doublings the product is √2 to twice that power times what it was at first, since a doubling is two units. What is left of d is
-- then nothing, or the one unit of the single step. Assumes nothing.
use mathlib.Core.Path.{◌≡◌}
use Prim.Native.Nat.{◌+◌}
use Rattle.amplitude.specs.Amp.{√2^}
use Rattle.leafrows.specs.Value.{amp_is}
use Rattle.equality.specs.Wide.{wide_is}
use Rattle.equality.proofs.raised.Given as goal

abbrev pub invariant-loop : goal.invariant-loop
invariant-loop l =
    wide_is l.product ≡ √2^ (l.counter + l.counter) (amp_is l.fn.x)
