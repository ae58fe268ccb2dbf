-- Each coefficient is the number at its place. Assumes nothing.
use native.Mathlib.Omega.{arith}
use mir.Syntax.{w32}
use Rattle.tables.specs.Table.{leaf_row}
use Rattle.leafrows.proofs.Signed.{amp-told}
use Rattle.leafrows.proofs.amplitude_at.Goals as goal

pub returns : goal.returns
unfolding leaf_row
returns c =
    amp-told w32 _ _ _ _ (omega arith) (omega arith) (omega arith) (omega arith)
