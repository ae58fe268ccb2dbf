-- The mask has the choices that all reached states so far have. Assumes nothing.
-- state s has choice d if it is reached
use mathlib.Core.Path.{◌≡◌}
use mathlib.Core.Bool.{Bool, ◌&&◌}
use mathlib.Core.List.{List}
use Prim.Native.Nat.{ℕ, ◌-◌, ◌≤◌, max}
use Rattle.automata.specs.Choice.{has}
use Rattle.meeting.specs.All.{all_in}
use Rattle.reaching.specs.Reached.{if_reached, has_choice}
use Rattle.reaching.proofs.reached_choices.Given as goal

abbrev pub F : (masks first reached : List ℕ) (d : ℕ) → ℕ → Bool
F masks first reached d = if_reached (has_choice masks first d) reached

abbrev pub invariant-loop-s : goal.invariant-loop-s
invariant-loop-s l =
    (l.s ≤ max l.from l.to) × ((d : ℕ) → has l.left d ≡ has 4294967295 d && all_in (F l.table.masks.now l.table.first.now l.reached d) l.from (l.s - l.from))
