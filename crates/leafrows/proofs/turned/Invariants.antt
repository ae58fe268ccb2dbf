-- After so many turns the product is ω to that power times what it was at first. Assumes nothing.
use mathlib.Core.Path.{◌≡◌}
use Rattle.amplitude.specs.Amp.{ω^}
use Rattle.leafrows.specs.Value.{amp_is}
use Rattle.leafrows.proofs.turned.Given as goal

abbrev pub invariant-loop : goal.invariant-loop
invariant-loop l =
    amp_is l.product ≡ ω^ l.counter (amp_is l.fn.x)
