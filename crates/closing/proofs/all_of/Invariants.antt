-- `closing::all_of` meets its contract: the product so far, then the numbers left, comes to all of them. Assumes nothing.
use Rattle.closing.proofs.Loops.{Playing}
use Rattle.closing.proofs.all_of.Given as goal

abbrev pub invariant-loop-e : goal.invariant-loop-e
invariant-loop-e l =
    Playing l.seq l.all l.e-index
