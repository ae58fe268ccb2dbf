-- Relation after relation, while there is room; those of the level stay. Assumes nothing.
use mathlib.Core.Path.{◌≡◌}
use Prim.Native.Nat.{◌-◌}
use lib.ListN.{length}
use Rattle.batching.proofs.Batches.{Batching}
use Rattle.batching.proofs.batch.Given as goal

abbrev pub invariant-loop-place : goal.invariant-loop-place
invariant-loop-place l =
    (length l.stack ≡ length l.initial.stack) × (length l.scratch ≡ length l.initial.scratch) × Batching l.step.sides.image.rows.now l.step.sides.image.masks.now l.step.sides.image.first.now l.step.sides.end.rows.now l.step.sides.end.masks.now l.step.sides.end.first.now l.step.c l.step.sides.wide l.step.plane l.step.may.now l.initial.stack l.p l.step.room l.step.level l.step.next l.from l.stack l.place l.q

abbrev pub decreases-loop-place : goal.decreases-loop-place
decreases-loop-place l =
    l.all - l.place
