-- The zeros at the end of a mask are its least choice, and there are at most 32 of them. Assumes nothing.
use mathlib.Core.Path.{refl}
use lib.Count.{trailing_le}
use Rattle.masks.proofs.least_choice.Goals as goal

pub returns : goal.returns
returns c =
    (refl, trailing_le 32 c.args.m)
