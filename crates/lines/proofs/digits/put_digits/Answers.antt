-- `lines::digits::put_digits` meets its contract. The loop's invariant: the digits of what is left, put at the front, come to the whole.
-- Assumes nothing.
use native.Mathlib.Omega.{arith}
use borrow.Author.Rules.{rules}
use Rattle.lines.proofs.Decimal.{write-begin, write-more, write-next, write-room, write-all}
use Rattle.lines.proofs.digits.put_digits.Goals as goal

pub loop-left-init : goal.loop-left-init
loop-left-init c =
    write-begin c.args.n c.args.out.now (search rules) c.requires.0 c.requires.1

pub overflow_sub-at : goal.overflow_sub-at
overflow_sub-at c =
    omega (arith, write-more c.loop-left.invariant c.loop-left-test.true)

pub bounds-out-at : goal.bounds-out-at
bounds-out-at c =
    omega (arith, write-more c.loop-left.invariant c.loop-left-test.true)

pub loop-left-preserved : goal.loop-left-preserved
loop-left-preserved c =
    write-next c.loop-left.invariant c.loop-left-test.true c.digit.ensures

pub bounds-out-0 : goal.bounds-out-0
bounds-out-0 c =
    write-room c.loop-left.invariant c.loop-left-test.false

pub returns : goal.returns
returns c =
    write-all c.loop-left.invariant c.loop-left-test.false c.digit-2.ensures
