-- `pairing::first_choice` meets its contract: a mask of 32 bits that is not empty has a least choice below 32. Assumes nothing.
use native.Mathlib.Omega.{arith}
use Rattle.automata.proofs.Masks.{least-small}
use Rattle.pairing.proofs.first_choice.Goals as goal

pub returns : goal.returns
returns c =
    let h = least-small c.args.left (record { some = omega (arith, c.requires); small = omega (arith, c.ranges) }) in
    (c.least_choice.ensures.0, omega (arith, c.least_choice.ensures.0, h))
