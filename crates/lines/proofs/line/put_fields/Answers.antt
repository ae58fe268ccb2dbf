-- `lines::line::put_fields` meets its contract. The loop's invariant: i fields are at the front, in at most four bytes each. Assumes nothing.
use native.Mathlib.Omega.{arith}
use Rattle.lines.proofs.Fields.{list_next}
use Rattle.lines.proofs.line.put_fields.Goals as goal

pub loop-number-preserved : goal.loop-number-preserved
loop-number-preserved c =
    list_next c.loop-number.invariant c.loop-number-test.true (omega (arith, c.type_inv.numbers c.loop-number.number-index)) (rw c.from.ensures at c.put_field-at.ensures)
