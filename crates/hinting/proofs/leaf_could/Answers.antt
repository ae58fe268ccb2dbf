-- A row of the image state is found, and the rows of the end state are asked. Assumes nothing.
use Rattle.stepping.proofs.Steps.{moves}
use Rattle.fitting.proofs.Leaves.{leafed, leafless}
use Rattle.hinting.proofs.Hints.{no_leaf_hint, leaf-fits}
use mathlib.Core.Bool.{true}
use mathlib.Core.Path.{refl}
use Rattle.hinting.proofs.leaf_could.Goals as goal

pub returns-in_default : goal.returns-in_default
returns-in_default c =
    λ h. absurd (no_leaf_hint c.args.sides.now.image.rows.now c.args.sides.now.image.masks.now c.args.sides.now.image.coefs.now c.args.sides.now.image.first.now c.args.sides.now.end.rows.now c.args.sides.now.end.masks.now c.args.sides.now.end.coefs.now c.args.sides.now.end.first.now c.args.c c.args.s c.args.e 0 (leafless c.args.sides.now.image.rows.now c.args.sides.now.image.masks.now c.args.sides.now.image.coefs.now c.args.sides.now.image.first.now c.args.s c.args.c c.transition.ensures c.in_default.is) h)

pub end_fits-requires : goal.end_fits-requires
end_fits-requires c =
    let m = moves c.args.sides.now.image.rows.now c.args.sides.now.image.masks.now c.args.sides.now.image.first.now c.args.s c.args.c c.transition.ensures c.in-Some.i c.in-Some.is in
    record { begun = c.requires.0.1.end_begun; rows = c.requires.0.1.leaves refl c.in-Some.i m.after m.before }

pub returns : goal.returns
returns c =
    λ h. c.end_fits.ensures (leaf-fits c.args.sides.now.image.rows.now c.args.sides.now.image.masks.now c.args.sides.now.image.coefs.now c.args.sides.now.image.first.now c.args.sides.now.end.rows.now c.args.sides.now.end.masks.now c.args.sides.now.end.coefs.now c.args.sides.now.end.first.now c.args.c c.args.s c.args.e c.in-Some.i (leafed c.args.sides.now.image.rows.now c.args.sides.now.image.masks.now c.args.sides.now.image.coefs.now c.args.sides.now.image.first.now c.args.s c.args.c c.transition.ensures c.in-Some.i c.in-Some.is).is h)
