-- The next level is emptied, and then the children of all pairs meet there. Assumes nothing.
use Rattle.stepping.specs.Step.{kids_on}
use Rattle.stepping.proofs.Walks.{stage-again, gone}
use Rattle.stepping.proofs.step_down.Goals as goal

pub step_states-requires : goal.step_states-requires
step_states-requires c =
    ((c.args.next, stage-again c.meet_none.auto.met c.requires.0), c.requires.1, c.requires.2)

pub returns : goal.returns
returns c =
    gone (kids_on c.args.sides.now c.args.c c.args.d) c.args.level c.requires.0.below c.requires.0.small c.requires.0.narrow c.meet_none.ensures
    (c.step_states.ensures c.args.next (stage-again c.meet_none.auto.met c.requires.0))
