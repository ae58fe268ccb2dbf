-- The bytes passed are copied. Assumes nothing.
use Rattle.remembering.proofs.CopyLaws.{Copying}
use Rattle.remembering.proofs.copy_bytes.Given as goal

abbrev pub invariant-loop-i : goal.invariant-loop-i
invariant-loop-i l =
    Copying l.from l.to l.base l.i l.row l.initial.rows l.rows
