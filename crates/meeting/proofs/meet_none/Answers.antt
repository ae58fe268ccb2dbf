-- The words of the states are cleared. Assumes nothing.
use native.Mathlib.Omega.{arith}
use Rattle.meeting.proofs.Places.{small_product, emptied_words}
use Rattle.meeting.proofs.meet_none.Goals as goal

pub overflow_mul-from : goal.overflow_mul-from
overflow_mul-from c =
    omega (arith, small_product c.args.from c.args.wide (omega arith) (omega arith))

pub returns : goal.returns
returns c =
    emptied_words c.args.wide c.args.from c.args.to c.clear_words.ensures
