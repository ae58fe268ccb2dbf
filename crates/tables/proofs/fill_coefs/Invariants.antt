-- Each leaf's coefficients are stored at its number, and the earlier rows stay. Assumes nothing.
use mathlib.Core.Path.{◌≡◌}
use lib.ListN.{length}
use Rattle.tables.specs.Unpack.{Leaved}
use Rattle.tables.proofs.fill_coefs.Given as goal

abbrev pub invariant-loop-i : goal.invariant-loop-i
invariant-loop-i l =
    (length l.coefs ≡ length l.initial.coefs) × Leaved l.file l.start l.i l.coefs
