-- The next level is emptied, and then the children of all reached states are reached there. Assumes nothing.
use Rattle.reaching.specs.Reached.{kids_in}
use Rattle.reaching.proofs.Spreads.{stage-again, gone}
use Rattle.reaching.proofs.reach_next.Goals as goal

pub reach_states-requires : goal.reach_states-requires
reach_states-requires c =
    ((c.args.till, stage-again c.reach_none.auto.reached c.requires.0), c.requires.1)

pub returns : goal.returns
returns c =
    gone (kids_in c.args.table.now.rows.now c.args.table.now.masks.now c.args.table.now.first.now c.args.c) c.args.from c.reach_none.ensures (c.reach_states.ensures c.args.till (stage-again c.reach_none.auto.reached c.requires.0))
