-- `applying::put_roots` meets its contract. The loop's invariant: the first i keys are those of the first i roots. Assumes nothing.
use native.Mathlib.Omega.{arith}
use Rattle.applying.proofs.Roots.{roots-there}
use Rattle.applying.proofs.put_roots.Goals as goal

pub returns : goal.returns
returns c =
    roots-there c.loop-i.cur c.args.count (omega arith) (λ j h. c.loop-i.invariant j (omega arith))
