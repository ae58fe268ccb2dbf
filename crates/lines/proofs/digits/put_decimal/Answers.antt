-- `lines::digits::put_decimal` meets its contract: the digits are counted, ten at most, and then put. Assumes nothing.
use native.Mathlib.Omega.{arith}
use borrow.Author.Rules.{rules}
use Rattle.lines.proofs.Decimal.{few32}
use Rattle.lines.proofs.digits.put_decimal.Goals as goal

pub put_digits-requires : goal.put_digits-requires
put_digits-requires c =
    (c.digits_in-count.ensures, omega (arith, c.digits_in-count.ensures, few32 c.args.n (search rules)))

pub returns : goal.returns
returns c =
    record {
      count = c.digits_in-count.ensures;
      few = omega (arith, c.digits_in-count.ensures, few32 c.args.n (search rules));
      front = c.put_digits.ensures;
    }
