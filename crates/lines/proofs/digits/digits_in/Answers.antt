-- `lines::digits::digits_in` meets its contract. The loop's invariant: the digits counted and those of what is left are the number's, and
-- one. Assumes nothing.
use native.Mathlib.Omega.{arith}
use borrow.Author.Rules.{rules}
use Rattle.lines.proofs.Decimal.{count-begin, count_fits, count_next, count-all}
use Rattle.lines.proofs.digits.digits_in.Goals as goal

pub loop-left-init : goal.loop-left-init
loop-left-init c =
    count-begin c.args.n (search rules)

pub overflow_add-count : goal.overflow_add-count
overflow_add-count c =
    omega (arith, count_fits c.loop-left.invariant)

pub loop-left-preserved : goal.loop-left-preserved
loop-left-preserved c =
    count_next c.loop-left.invariant c.loop-left-test.true

pub returns : goal.returns
returns c =
    count-all c.loop-left.invariant c.loop-left-test.false
