-- The cells filled are zero. Assumes nothing.
use Rattle.reaching.proofs.ReachLaws.{emptied}
use Rattle.reaching.proofs.reach_none.Goals as goal

pub returns-then-from-to : goal.returns-then-from-to
returns-then-from-to c = emptied _ _ _ _ c.if-from-to.true c.requires (c.fill.ensures.after (λ y e. e))
