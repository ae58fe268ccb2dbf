-- Each level's count is stored at its number, and the earlier ones stay. Assumes nothing.
use mathlib.Core.Path.{◌≡◌}
use lib.ListN.{length}
use Rattle.tables.specs.Unpack.{Counted}
use Rattle.tables.proofs.fill_counts.Given as goal

abbrev pub invariant-loop-i : goal.invariant-loop-i
invariant-loop-i l =
    (length l.counts ≡ length l.initial.counts) × Counted l.file l.start l.i l.counts
