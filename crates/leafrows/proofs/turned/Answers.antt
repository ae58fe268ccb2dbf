-- After so many turns the product is ω to that power times what it was at first, and every power is in range. Assumes nothing.
use mathlib.Core.Path.{◌≡◌, ap, ◌∙◌}
use native.Mathlib.Numerals.{add-one}
use native.Mathlib.Omega.{arith}
use Rattle.amplitude.specs.Amp.{timesω, in_range_a}
use Rattle.leafrows.specs.Value.{amp_is}
use Rattle.leafrows.proofs.Ranges.{range-ω^}
use Rattle.leafrows.proofs.turned.Goals as goal

pub times_omega-product-requires : goal.times_omega-product-requires
times_omega-product-requires c =
    ap in_range_a c.loop.invariant ∙ range-ω^ c.loop.counter (amp_is c.args.x) c.requires

pub loop-preserved : goal.loop-preserved
loop-preserved c =
    c.times_omega-product.ensures ∙ ap timesω c.loop.invariant ∙ rw add-one

pub returns : goal.returns
returns c =
    let e : c.loop.counter ≡ c.args.j = omega arith in
    (c.loop.invariant ∙ rw e, ap in_range_a c.loop.invariant ∙ range-ω^ c.loop.counter (amp_is c.args.x) c.requires)
