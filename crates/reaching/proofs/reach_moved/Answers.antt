-- The row is looked up; where it is there its children are reached. Assumes nothing.
use Rattle.stepping.proofs.Steps.{moves, stays}
use Rattle.reaching.proofs.Spreads.{spread_none, kids-there, spread_kids}
use Rattle.reaching.proofs.reach_moved.Goals as goal

pub returns-in_default : goal.returns-in_default
returns-in_default c =
    λ from to ready. spread_none c.args.reached.now from to _ (stays c.args.table.now.rows.now c.args.table.now.masks.now c.args.table.now.first.now c.args.s c.args.c c.transition.ensures c.in_default.is)

pub reach_kids-requires : goal.reach_kids-requires
reach_kids-requires c =
    kids-there c.requires.0.2 (moves c.args.table.now.rows.now c.args.table.now.masks.now c.args.table.now.first.now c.args.s c.args.c c.transition.ensures c.in-Some.i c.in-Some.is)

pub returns : goal.returns
returns c =
    λ from to ready. spread_kids ready (moves c.args.table.now.rows.now c.args.table.now.masks.now c.args.table.now.first.now c.args.s c.args.c c.transition.ensures c.in-Some.i c.in-Some.is) c.reach_kids.ensures
