-- A row with an equal leaf would have passed. Assumes nothing.
use mathlib.Core.Path.{◌≡◌, sym, ◌∙◌}
use mathlib.Core.Bool.{false, false≢true}
use borrow.Author.Rules.{rules}
use Rattle.amplitude.specs.Leaf.{same}
use Rattle.lookup.specs.Lookup.{leaf_of}
use Rattle.hinting.proofs.Hints.{true_unless}
use Rattle.hinting.proofs.end_fits.Goals as goal

pub returns : goal.returns
returns c = λ w.
    true_unless _ (λ h.
    let k = c.any_row.ensures h w.row w.after w.before in
    let f : false ≡ same (leaf_of c.args.sides.now.image.rows.now c.args.sides.now.image.coefs.now c.args.i) (leaf_of c.args.sides.now.end.rows.now c.args.sides.now.end.coefs.now w.row) = search rules in
    false≢true (f ∙ w.fits))
