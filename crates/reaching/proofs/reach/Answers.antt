-- The state's cell becomes 1. Assumes nothing.
use Rattle.reaching.proofs.ReachLaws.{cell_set}
use Rattle.reaching.proofs.reach.Goals as goal

pub returns : goal.returns
returns c =
    cell_set c.args.reached.now c.args.s c.requires
