-- A state is reached if its cell is 1. Assumes nothing.
use borrow.Author.Rules.{rules}
use Rattle.reaching.specs.Reached.{is_reached}
use Rattle.reaching.proofs.is_reached.Goals as goal

pub returns : goal.returns
unfolding is_reached
returns c =
    search rules
