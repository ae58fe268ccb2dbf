-- A row that fits would have passed. Assumes nothing.
use mathlib.Core.Path.{◌≡◌, refl}
use mathlib.Core.Bool.{true, false, false≢true}
use Rattle.hinting.proofs.Hints.{true_unless}
use Rattle.foreseeing.proofs.leaf_could.Goals as goal

pub any_row-requires-clause-asked : goal.any_row-requires-clause-asked
any_row-requires-clause-asked c = λ i lo hi.
    record { begun = c.requires.1.end_begun; rows = c.requires.1.leaves refl i lo hi }

pub returns : goal.returns
returns c = λ may w.
    true_unless _ (λ h.
    let f : false ≡ true = c.any_row.ensures h w.row w.after w.before w.fits in
    false≢true f)
