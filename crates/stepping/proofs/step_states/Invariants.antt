-- The image states so far were walked over. Assumes nothing.
-- image state s passes with each end state that it meets
use mathlib.Core.Path.{◌≡◌}
use mathlib.Core.Bool.{Bool, true}
use mathlib.Core.List.{List}
use Prim.Native.Nat.{ℕ, ◌-◌, ◌<◌, ◌≤◌, max}
use lib.ListN.{length}
use Rattle.meeting.specs.declared.Level.{Level}
use Rattle.meeting.specs.All.{all_in, met_by}
use Rattle.stepping.specs.Step.{kids_in, RowReady, Stepped}
use Rattle.stepping.proofs.step_states.Given as goal

abbrev pub F : (rows masks first endrows endmasks endfirst met : List ℕ) (wide c d start stop : ℕ) → (ℕ → ℕ → Bool) → ℕ → Bool
F rows masks first endrows endmasks endfirst met wide c d start stop g s = met_by (kids_in rows masks first endrows endmasks endfirst c d g) wide met s start (stop - start)

abbrev pub invariant-loop-s : goal.invariant-loop-s
invariant-loop-s l =
    (l.s ≤ max l.level.from l.level.to) × (length l.met ≡ length l.initial.met)
    × ((next : Level) → ((q : ℕ) → l.level.from ≤ q → q < l.level.to → RowReady l.sides.image.rows.now l.sides.image.masks.now l.sides.image.first.now l.sides.end.rows.now l.sides.end.masks.now l.sides.end.first.now l.sides.wide (length l.initial.met) q l.level.start l.level.stop next)
    → Stepped l.sides.wide l.initial.met next (λ g. all_in (F l.sides.image.rows.now l.sides.image.masks.now l.sides.image.first.now l.sides.end.rows.now l.sides.end.masks.now l.sides.end.first.now l.initial.met l.sides.wide l.c l.d l.level.start l.level.stop g) l.level.from (l.s - l.level.from)) l.met true)
