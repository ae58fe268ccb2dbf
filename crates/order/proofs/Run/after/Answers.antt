-- Each field is the definition's. Assumes nothing.
use native.Mathlib.Numerals.{add-one}
use Rattle.order.specs.Pass.{run_after}
use Rattle.order.proofs.Run.after.Goals as goal

pub returns : goal.returns
unfolding run_after
returns c =
    simp (c.used_after.ensures, c.least_choice.ensures.0, add-one)
