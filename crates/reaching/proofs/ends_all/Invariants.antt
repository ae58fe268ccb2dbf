-- The states so far have their transitions. Assumes nothing.
use mathlib.Core.Path.{◌≡◌}
use mathlib.Core.Bool.{true}
use Prim.Native.Nat.{ℕ, ◌-◌, ◌≤◌, max}
use Rattle.lookup.specs.Lookup.{transition_row, is_some}
use Rattle.meeting.specs.All.{all_in}
use Rattle.reaching.specs.Reached.{if_reached}
use Rattle.reaching.proofs.ends_all.Given as goal

abbrev pub invariant-loop-s : goal.invariant-loop-s
invariant-loop-s l =
    (all_in (if_reached (λ (q : ℕ). is_some (transition_row l.table.masks.now l.table.first.now q l.c)) l.reached) l.from (l.s - l.from) ≡ true)
