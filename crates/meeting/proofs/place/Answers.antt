-- Numbers of 16 bits have a product of 32. Assumes nothing.
use native.Mathlib.Omega.{arith}
use Rattle.meeting.proofs.Places.{small_product}
use Rattle.meeting.proofs.place.Goals as goal

pub overflow_mul-result : goal.overflow_mul-result
overflow_mul-result c =
    omega (arith, small_product c.args.s c.args.wide (omega arith) (omega arith))

pub overflow_mul-result-2 : goal.overflow_mul-result-2
overflow_mul-result-2 c =
    omega (arith, small_product c.args.s c.args.wide (omega arith) (omega arith))

pub overflow_add-result : goal.overflow_add-result
overflow_add-result c =
    omega (arith, small_product c.args.s c.args.wide (omega arith) (omega arith))
