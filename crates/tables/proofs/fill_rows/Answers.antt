-- Each record's row is stored at its number, and the earlier rows stay. Assumes nothing.
use native.Mathlib.Omega.{arith}
use Rattle.tables.proofs.Fill.{filled_more}
use Rattle.tables.proofs.fill_rows.Goals as goal

pub loop-i-preserved : goal.loop-i-preserved
loop-i-preserved g c =
    (omega arith, omega arith, filled_more c.loop-i.invariant.2 (rw (c.from.ensures, c.from-in-loop-i.ensures) at c.put_row.ensures) c.read.ensures)
