-- Each record's row is stored at its number, and the earlier rows stay. Assumes nothing.
use mathlib.Core.Path.{◌≡◌}
use lib.ListN.{length}
use Rattle.tables.specs.Unpack.{Filled}
use Rattle.tables.proofs.fill_rows.Given as goal

abbrev pub invariant-loop-i : goal.invariant-loop-i
invariant-loop-i g l =
    (length l.rows ≡ length l.initial.rows) × (length l.masks ≡ length l.initial.masks) × Filled (goal.F-post g l.read) l.from l.i l.initial.rows l.initial.masks l.rows l.masks
