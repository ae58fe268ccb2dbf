-- `packing::put_coef` meets its contract: a number read from a slice of 32-bit numbers is one of them. Assumes nothing.
use mathlib.Core.Path.{ap, ◌∙◌}
use native.Mathlib.Omega.{arith}
use lib.IntN.{ℤ, pos}
use lib.ListN.{get_or}
use mir.Syntax.{w32}
use mir.Facts.{to_z-of_z}
use Rattle.stored.specs.Fields.{bytes32, unsigned32}
use Rattle.putting.specs.Front.{at_front}
use Rattle.packing.proofs.put_coef.Goals as goal

pub returns : goal.returns
returns c =
    let z : ℤ = get_or c.args.coefs.now c.args.at (pos 0) in
    c.put_i32.ensures
    ∙ ap (λ (x : ℤ). at_front (bytes32 (unsigned32 x)) c.args.out.now) (to_z-of_z {w = w32} {z = z} (record { sfits = omega arith }))
