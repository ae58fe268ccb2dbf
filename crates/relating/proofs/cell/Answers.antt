-- Numbers of 16 bits have a product of 32. Assumes nothing.
use native.Mathlib.Omega.{arith}
use Rattle.meeting.proofs.Places.{small_product}
use Rattle.relating.proofs.cell.Goals as goal

pub overflow_mul-result : goal.overflow_mul-result
overflow_mul-result c =
    omega (arith, small_product c.args.j c.args.plane (omega arith) (omega arith))

pub overflow_add-result : goal.overflow_add-result
overflow_add-result c =
    omega (arith, small_product c.args.j c.args.plane (omega arith) (omega arith))
