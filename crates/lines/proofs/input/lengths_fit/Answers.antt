-- `lines::input::lengths_fit` meets its contract: its tests are the definition's own. Assumes nothing.
use native.Mathlib.Omega.{arith}
use Rattle.std.proofs.lemmas.Bool.Decides.{nat_tests}
use Rattle.lines.specs.Divided.{lengths_fit}
use Rattle.lines.proofs.input.lengths_fit.Goals as goal

pub returns-then-start-gt-PART_MOST : goal.returns-then-start-gt-PART_MOST
unfolding lengths_fit
returns-then-start-gt-PART_MOST c =
    grind (arith, nat_tests)

pub returns : goal.returns
unfolding lengths_fit
returns c =
    grind (arith, nat_tests)
