-- The test is the definition's own. Assumes nothing.
use mathlib.Core.Path.{refl}
use Rattle.stored.specs.Rules.{counts_ok}
use Rattle.setfile.proofs.counts_ok.Goals as goal

pub returns : goal.returns
unfolding counts_ok
returns c =
    refl
