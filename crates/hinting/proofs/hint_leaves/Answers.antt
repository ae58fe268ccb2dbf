-- Each pair of the level is asked, by what is marked then. Assumes nothing.
use mathlib.Core.Path.{◌≡◌, refl}
use mathlib.Core.Bool.{true, false, false≢true}
use borrow.Author.Rules.{rules}
use Rattle.hinting.specs.Hint.{Hint}
use Rattle.hinting.proofs.Hints.{pair-again, hinted}
use Rattle.hinting.proofs.hint_leaves.Goals as goal

pub meet_where-requires-clause-asked : goal.meet_where-requires-clause-asked
meet_where-requires-clause-asked c = λ p s e same lo hi lo' hi'.
    (pair-again same ((c.requires.0.each s lo hi).each e lo' hi'), c.requires.1)

pub returns : goal.returns
returns c =
    hinted true c.args.sides.now.image.rows.now c.args.sides.now.image.masks.now c.args.sides.now.image.coefs.now c.args.sides.now.image.first.now c.args.sides.now.end.rows.now c.args.sides.now.end.masks.now c.args.sides.now.end.coefs.now c.args.sides.now.end.first.now c.args.c c.args.sides.now.wide
    _ c.meet_where.ensures (λ p s e k h.
    let f : false ≡ true = k h in
    false≢true f)
