-- Root after root, while there is room. Assumes nothing.
use mathlib.Core.Path.{◌≡◌}
use Prim.Native.Nat.{◌≤◌, max}
use lib.ListN.{length}
use Rattle.judging.proofs.Starts.{Starting}
use Rattle.judging.proofs.begin_from.Given as goal

abbrev pub invariant-loop-e : goal.invariant-loop-e
invariant-loop-e l =
    (length l.scratch ≡ length l.initial.scratch) × (l.e ≤ max l.from l.level.stop) × (l.p ≤ l.room) × Starting l.wide l.plane l.room l.may l.initial.stack l.root l.level l.from l.stack l.e l.p
