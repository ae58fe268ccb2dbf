-- Each level's count is stored at its number, and the earlier ones stay. Assumes nothing.
use native.Mathlib.Omega.{arith}
use lib.ListN.{length-set}
use Rattle.tables.proofs.Fill.{stored_more}
use Rattle.tables.proofs.fill_counts.Goals as goal

pub loop-i-preserved : goal.loop-i-preserved
loop-i-preserved c =
    (simp length-set c.loop-i.invariant.0, record { each = stored_more c.loop-i.counts c.loop-i.i c.count_at.result (omega arith) c.loop-i.invariant.1.each c.count_at.ensures })
