-- `closing::inverse_of` meets its contract: the first column in which the identity stands. Assumes nothing.
use Rattle.closing.proofs.Loops.{Searching}
use Rattle.closing.proofs.inverse_of.Given as goal

abbrev pub invariant-loop-q : goal.invariant-loop-q
invariant-loop-q l =
    Searching l.p l.q
