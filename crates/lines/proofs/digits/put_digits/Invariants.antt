-- `lines::digits::put_digits` meets its contract. The loop's invariant: the digits of what is left, put at the front, come to the whole.
-- Assumes nothing.
use Rattle.lines.proofs.Decimal.{Writing}
use Rattle.lines.proofs.digits.put_digits.Given as goal

abbrev pub invariant-loop-left : goal.invariant-loop-left
invariant-loop-left l =
    Writing l.n l.initial.out l.out l.left l.at

abbrev pub decreases-loop-left : goal.decreases-loop-left
decreases-loop-left l =
    l.left
