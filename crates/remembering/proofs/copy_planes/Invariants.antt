-- The planes passed are copied. Assumes nothing.
use Rattle.remembering.proofs.PlaneLaws.{CopyingPlanes}
use Rattle.remembering.proofs.copy_planes.Given as goal

abbrev pub invariant-loop-done : goal.invariant-loop-done
invariant-loop-done l =
    CopyingPlanes l.from l.to l.plane l.p l.base l.done l.stack l.initial.kept l.kept
