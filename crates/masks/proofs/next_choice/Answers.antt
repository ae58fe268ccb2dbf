-- The least choice of what is left, counted from `from`. Assumes nothing.
use native.Mathlib.Omega.{arith}
use Rattle.masks.proofs.NextLaws.{none_left, no_next, is-next}
use Rattle.masks.proofs.next_choice.Goals as goal

pub returns-then-from-ge32 : goal.returns-then-from-ge32
returns-then-from-ge32 c =
    none_left c.args.mask c.args.from c.if-from-ge32.true

pub returns-then-rest-eq0 : goal.returns-then-rest-eq0
returns-then-rest-eq0 c =
    no_next c.args.mask c.args.from c.if-rest-eq0.true

pub returns : goal.returns
returns c =
    is-next c.args.mask c.args.from (omega (arith, c.if-rest-eq0.false)) (omega arith) c.least_choice.ensures.0
