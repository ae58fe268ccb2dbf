-- Each pair of the level is asked, by what is marked then. Assumes nothing.
use mathlib.Core.Path.{◌≡◌}
use mathlib.Core.Bool.{true, false, false≢true}
use Rattle.hinting.proofs.Hints.{pair-again, hinted}
use Rattle.foreseeing.proofs.Fits.{pair_fits}
use Rattle.foreseeing.proofs.foresee_kids.Goals as goal

pub meet_where-requires-clause-asked : goal.meet_where-requires-clause-asked
meet_where-requires-clause-asked c = λ p s e same lo hi lo' hi'.
    pair-again same ((c.requires.each s lo hi).each e lo' hi')

pub returns : goal.returns
returns c = λ k.
    hinted false c.args.sides.now.image.rows.now c.args.sides.now.image.masks.now c.args.sides.now.image.coefs.now c.args.sides.now.image.first.now c.args.sides.now.end.rows.now c.args.sides.now.end.masks.now c.args.sides.now.end.coefs.now c.args.sides.now.end.first.now k c.args.sides.now.wide
    _ c.meet_where.ensures (λ p s e said h.
    let f : false ≡ true = said (pair_fits c.args.sides.now.image.rows.now c.args.sides.now.image.masks.now c.args.sides.now.image.coefs.now c.args.sides.now.image.first.now c.args.sides.now.end.rows.now c.args.sides.now.end.masks.now c.args.sides.now.end.coefs.now c.args.sides.now.end.first.now k c.args.sides.now.wide p.now s e false h) in
    false≢true f)
