-- The planes passed are the same. Assumes nothing.
use Rattle.remembering.specs.Copies.{EqualPlanes}
use Rattle.remembering.proofs.equal_planes.Given as goal

abbrev pub invariant-loop-j : goal.invariant-loop-j
invariant-loop-j l =
    EqualPlanes l.from l.to l.plane l.j l.base l.stack l.kept
