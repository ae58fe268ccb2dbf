-- A row with marked children would have passed. Assumes nothing.
use mathlib.Core.Path.{◌≡◌, sym, ◌∙◌}
use mathlib.Core.Bool.{false, false≢true}
use borrow.Author.Rules.{rules}
use Rattle.lookup.specs.Lookup.{pair_row}
use Rattle.hinting.specs.Hint.{both_marked}
use Rattle.hinting.proofs.Hints.{true_unless}
use Rattle.hinting.proofs.kids_may.Goals as goal

pub returns : goal.returns
returns c = λ w.
    true_unless _ (λ h.
    let k = c.any_row.ensures h w.row w.after w.before in
    let f : false ≡ both_marked c.args.sides.now.wide c.args.may.now (pair_row c.args.sides.now.image.rows.now c.args.i) (pair_row c.args.sides.now.end.rows.now w.row) = search rules in
    false≢true (f ∙ w.marked))
