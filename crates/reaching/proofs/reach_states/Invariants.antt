-- The states so far were walked over. Assumes nothing.
use mathlib.Core.Path.{◌≡◌}
use mathlib.Core.Bool.{true}
use Prim.Native.Nat.{ℕ, ◌-◌, ◌≤◌, max}
use lib.ListN.{length}
use Rattle.reaching.specs.Reached.{kids_in, Stage}
use Rattle.reaching.proofs.Spreads.{Walked}
use Rattle.reaching.proofs.reach_states.Given as goal

abbrev pub invariant-loop-s : goal.invariant-loop-s
invariant-loop-s l =
    (l.s ≤ max l.from l.to) × (length l.reached ≡ length l.initial.reached)
    × ((till : ℕ) → Stage l.table.rows.now l.table.masks.now l.table.first.now (length l.initial.reached) l.from l.to till → Walked (kids_in l.table.rows.now l.table.masks.now l.table.first.now l.c) l.initial.reached l.from l.to till l.s l.reached true)
