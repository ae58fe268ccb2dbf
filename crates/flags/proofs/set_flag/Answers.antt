-- The mark's word gets the mark's bit. Assumes nothing.
use Rattle.flags.proofs.FlagLaws.{flagged}
use Rattle.flags.proofs.set_flag.Goals as goal

pub returns : goal.returns
returns c =
    rw c.with_bit.ensures (flagged c.args.words.now c.args.i c.requires)
