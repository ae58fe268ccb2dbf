-- Both rows are looked up; where both are there their children meet. Assumes nothing.
use Rattle.stepping.specs.Step.{move_in}
use Rattle.stepping.proofs.Steps.{moves, stays, step-none, step_no_end, kids-there, stepped}
use Rattle.stepping.proofs.step_kids.Goals as goal

pub returns-in_default : goal.returns-in_default
returns-in_default c =
    λ next ready. step-none c.args.sides.now.wide c.args.met.now next _ _ (stays c.args.sides.now.image.rows.now c.args.sides.now.image.masks.now c.args.sides.now.image.first.now c.args.s c.args.c c.transition.ensures c.in_default.is)

pub returns-in_default-transition : goal.returns-in_default-transition
returns-in_default-transition c =
    λ next ready. step_no_end c.args.sides.now.wide c.args.met.now next (move_in c.args.sides.now.image.rows.now c.args.sides.now.image.masks.now c.args.sides.now.image.first.now c.args.c c.args.s) _ (stays c.args.sides.now.end.rows.now c.args.sides.now.end.masks.now c.args.sides.now.end.first.now c.args.e c.args.d c.transition-2.ensures c.in_default-transition.is)

pub meet_kids-requires : goal.meet_kids-requires
meet_kids-requires c =
    kids-there c.requires.0.1
    (moves c.args.sides.now.image.rows.now c.args.sides.now.image.masks.now c.args.sides.now.image.first.now c.args.s c.args.c c.transition.ensures c.in-Some.i c.in-Some.is)
    (moves c.args.sides.now.end.rows.now c.args.sides.now.end.masks.now c.args.sides.now.end.first.now c.args.e c.args.d c.transition-2.ensures c.in-Some-transition.j c.in-Some-transition.is)

pub returns : goal.returns
returns c =
    λ next ready. stepped ready
    (moves c.args.sides.now.image.rows.now c.args.sides.now.image.masks.now c.args.sides.now.image.first.now c.args.s c.args.c c.transition.ensures c.in-Some.i c.in-Some.is)
    (moves c.args.sides.now.end.rows.now c.args.sides.now.end.masks.now c.args.sides.now.end.first.now c.args.e c.args.d c.transition-2.ensures c.in-Some-transition.j c.in-Some-transition.is)
    c.meet_kids.ensures
