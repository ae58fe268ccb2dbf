-- A row of the image state is found, and the rows of the end state are asked. Assumes nothing.
use Rattle.stepping.proofs.Steps.{moves, stays}
use Rattle.hinting.proofs.Hints.{no_kids_hint, kids-fit}
use mathlib.Core.Bool.{false}
use mathlib.Core.Path.{refl}
use Rattle.hinting.proofs.kids_could.Goals as goal

pub returns-in_default : goal.returns-in_default
returns-in_default c =
    λ h. absurd (no_kids_hint c.args.sides.now.image.rows.now c.args.sides.now.image.masks.now c.args.sides.now.image.coefs.now c.args.sides.now.image.first.now c.args.sides.now.end.rows.now c.args.sides.now.end.masks.now c.args.sides.now.end.coefs.now c.args.sides.now.end.first.now c.args.c c.args.s c.args.e 0 c.args.sides.now.wide c.args.may.now (stays c.args.sides.now.image.rows.now c.args.sides.now.image.masks.now c.args.sides.now.image.first.now c.args.s c.args.c c.transition.ensures c.in_default.is) h)

pub kids_may-requires : goal.kids_may-requires
kids_may-requires c =
    let m = moves c.args.sides.now.image.rows.now c.args.sides.now.image.masks.now c.args.sides.now.image.first.now c.args.s c.args.c c.transition.ensures c.in-Some.i c.in-Some.is in
    record { begun = c.requires.0.end_begun; rows = c.requires.0.kids refl c.in-Some.i m.after m.before }

pub returns : goal.returns
returns c =
    λ h. c.kids_may.ensures (kids-fit c.args.sides.now.image.rows.now c.args.sides.now.image.masks.now c.args.sides.now.image.coefs.now c.args.sides.now.image.first.now c.args.sides.now.end.rows.now c.args.sides.now.end.masks.now c.args.sides.now.end.coefs.now c.args.sides.now.end.first.now c.args.c c.args.s c.args.e c.in-Some.i c.args.sides.now.wide c.args.may.now (moves c.args.sides.now.image.rows.now c.args.sides.now.image.masks.now c.args.sides.now.image.first.now c.args.s c.args.c c.transition.ensures c.in-Some.i c.in-Some.is).is h)
