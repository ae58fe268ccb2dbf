-- Two bytes are below 65,536 together, and their sum is the definition's. Assumes nothing.
use native.Mathlib.Omega.{arith}
use Rattle.stored.specs.Fields.{u16_at}
use Rattle.fields.proofs.u16_at.Goals as goal

pub returns : goal.returns
unfolding u16_at
returns c =
    omega arith
