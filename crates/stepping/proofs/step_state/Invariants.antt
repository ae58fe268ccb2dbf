-- The end states so far were walked over. Assumes nothing.
use mathlib.Core.Path.{◌≡◌}
use mathlib.Core.Bool.{true}
use Prim.Native.Nat.{◌-◌, ◌≤◌, max}
use lib.ListN.{length}
use Rattle.meeting.specs.declared.Level.{Level}
use Rattle.meeting.specs.All.{met_by}
use Rattle.stepping.specs.Step.{RowReady, Stepped, kids_on}
use Rattle.stepping.proofs.step_state.Given as goal

abbrev pub invariant-loop-e : goal.invariant-loop-e
invariant-loop-e l =
    (l.start ≤ l.from) × (l.from ≤ max l.start l.stop) × (length l.met ≡ length l.initial.met)
    × ((next : Level) → RowReady l.sides.image.rows.now l.sides.image.masks.now l.sides.image.first.now l.sides.end.rows.now l.sides.end.masks.now l.sides.end.first.now l.sides.wide (length l.initial.met) l.s l.start l.stop next
    → Stepped l.sides.wide l.initial.met next (λ g. met_by (kids_on l.sides l.c l.d g) l.sides.wide l.initial.met l.s l.start (l.from - l.start)) l.met true)

abbrev pub decreases-loop-e : goal.decreases-loop-e
decreases-loop-e l =
    l.stop - l.from
