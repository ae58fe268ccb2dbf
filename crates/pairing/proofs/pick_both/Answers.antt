-- `pairing::pick_both` meets its contract: both rows are picked for the least of the choices left. Assumes nothing.
use mathlib.Core.Path.{refl}
use Rattle.pairing.proofs.pick_both.Goals as goal

pub returns : goal.returns
returns c =
    record { one = rw c.first_choice-c.ensures.0 at c.pick_row-i.ensures; other = rw c.first_choice-c.ensures.0 at c.pick_row-j.ensures; shared = refl }
