-- The test of the two bytes is the definition's own. Assumes nothing.
use mathlib.Core.Path.{refl}
use Rattle.stored.specs.Fields.{mark_at}
use Rattle.fields.proofs.mark_at.Goals as goal

pub returns : goal.returns
unfolding mark_at
returns c =
    refl
