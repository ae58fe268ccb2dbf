-- Each number that is in range is kept. Assumes nothing.
use native.Mathlib.Omega.{arith}
use mir.Facts.{to_z-of_z}
use mir.Syntax.{w32}
use Rattle.leafrows.proofs.Signed.{told}
use Rattle.leafrows.proofs.Values.{all_kept}
use Rattle.leafrows.proofs.tested.Goals as goal

pub returns : goal.returns
returns c =
    rw (told w32 c.in_ok-coefficient.field-0 (omega arith), told w32 c.in_ok-coefficient-2.field-0 (omega arith), told w32 c.in_ok-coefficient-3.field-0 (omega arith), told w32 c.in_ok-coefficient-4.field-0 (omega arith))
    (all_kept {a = c.args.a} {b = c.args.b} {c = c.args.c} {d = c.args.d} (rw (to_z-of_z c.ranges.a) at c.in_ok-coefficient.ensures) (rw (to_z-of_z c.ranges.b) at c.in_ok-coefficient-2.ensures) (rw (to_z-of_z c.ranges.c) at c.in_ok-coefficient-3.ensures) (rw (to_z-of_z c.ranges.d) at c.in_ok-coefficient-4.ensures))
