-- Both rows are looked up; where both are there their leaves are compared. Assumes nothing.
use Rattle.automata.specs.Choice.{choose}
use Rattle.lookup.specs.Alts.{ends_in}
use Rattle.fitting.proofs.Leaves.{leafed, leafless, no_leaf, no_end-leaf, both-leaves}
use Rattle.fitting.proofs.fit_leaves.Goals as goal

pub returns-in_default : goal.returns-in_default
returns-in_default c =
    no_leaf _ _ (leafless c.args.sides.now.image.rows.now c.args.sides.now.image.masks.now c.args.sides.now.image.coefs.now c.args.sides.now.image.first.now c.args.s c.args.c c.transition.ensures c.in_default.is)

pub returns-in_default-transition : goal.returns-in_default-transition
returns-in_default-transition c =
    no_end-leaf (choose c.args.c (ends_in c.args.sides.now.image.rows.now c.args.sides.now.image.masks.now c.args.sides.now.image.coefs.now c.args.sides.now.image.first.now c.args.s)) _
    (leafless c.args.sides.now.end.rows.now c.args.sides.now.end.masks.now c.args.sides.now.end.coefs.now c.args.sides.now.end.first.now c.args.e c.args.d c.transition-2.ensures c.in_default-transition.is)

pub fit_rows-requires : goal.fit_rows-requires
fit_rows-requires c =
    let x = leafed c.args.sides.now.image.rows.now c.args.sides.now.image.masks.now c.args.sides.now.image.coefs.now c.args.sides.now.image.first.now c.args.s c.args.c c.transition.ensures c.in-Some.i c.in-Some.is in
    let y = leafed c.args.sides.now.end.rows.now c.args.sides.now.end.masks.now c.args.sides.now.end.coefs.now c.args.sides.now.end.first.now c.args.e c.args.d c.transition-2.ensures c.in-Some-transition.j c.in-Some-transition.is in
    (c.requires.0.image.each _ x.after x.before, c.requires.0.ends.each _ y.after y.before)

pub returns : goal.returns
returns c =
    let x = leafed c.args.sides.now.image.rows.now c.args.sides.now.image.masks.now c.args.sides.now.image.coefs.now c.args.sides.now.image.first.now c.args.s c.args.c c.transition.ensures c.in-Some.i c.in-Some.is in
    let y = leafed c.args.sides.now.end.rows.now c.args.sides.now.end.masks.now c.args.sides.now.end.coefs.now c.args.sides.now.end.first.now c.args.e c.args.d c.transition-2.ensures c.in-Some-transition.j c.in-Some-transition.is in
    both-leaves _ _ x.is y.is c.fit_rows.ensures
