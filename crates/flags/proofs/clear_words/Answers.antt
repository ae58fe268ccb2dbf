-- The words filled are zero. Assumes nothing.
use Rattle.flags.proofs.FlagLaws.{cleared}
use Rattle.flags.proofs.clear_words.Goals as goal

pub returns-then-from-to : goal.returns-then-from-to
returns-then-from-to c = cleared _ _ _ _ c.if-from-to.true c.requires (c.fill.ensures.after (λ y e. e))
