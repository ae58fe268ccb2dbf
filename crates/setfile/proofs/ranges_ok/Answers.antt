-- The test is the definition's own. Assumes nothing.
use mathlib.Core.Path.{refl}
use Rattle.stored.specs.Rules.{ranges_ok}
use Rattle.setfile.proofs.ranges_ok.Goals as goal

pub returns : goal.returns
unfolding ranges_ok
returns c =
    refl
