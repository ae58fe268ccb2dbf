-- Choice after choice that all end states have, while there is room; the spare row has the relation still. Assumes nothing.
use Prim.Native.Nat.{◌-◌, ◌≤◌}
use Rattle.batching.proofs.Batches.{Taking}
use Rattle.batching.proofs.take_choices.Given as goal

abbrev pub invariant-loop-d : goal.invariant-loop-d
invariant-loop-d l =
    (l.r ≤ l.step.room) × Taking l.step.sides.image.rows.now l.step.sides.image.masks.now l.step.sides.image.first.now l.step.sides.end.rows.now l.step.sides.end.masks.now l.step.sides.end.first.now l.step.c l.step.sides.wide l.step.plane l.step.may.now l.initial.stack l.q l.step.room l.initial.scratch l.step.level l.step.next l.from l.stack l.scratch l.start l.r

abbrev pub decreases-loop-d : goal.decreases-loop-d
decreases-loop-d l =
    32 - l.start
