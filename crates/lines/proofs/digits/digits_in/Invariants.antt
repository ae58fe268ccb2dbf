-- `lines::digits::digits_in` meets its contract. The loop's invariant: the digits counted and those of what is left are the number's, and
-- one. Assumes nothing.
use Rattle.lines.proofs.Decimal.{Counting}
use Rattle.lines.proofs.digits.digits_in.Given as goal

abbrev pub invariant-loop-left : goal.invariant-loop-left
invariant-loop-left l =
    Counting l.n l.left l.count

abbrev pub decreases-loop-left : goal.decreases-loop-left
decreases-loop-left l =
    l.left
