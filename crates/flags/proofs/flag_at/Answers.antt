-- The word shifted down by the mark's place in it has the mark as its last bit. Assumes nothing.
use mathlib.Core.Path.{refl}
use Rattle.flags.specs.Flags.{flag_at}
use Rattle.flags.proofs.flag_at.Goals as goal

pub returns : goal.returns
unfolding flag_at
returns c =
    refl
