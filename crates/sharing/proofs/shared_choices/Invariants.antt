-- The mask has the choices that the end states of all image states so far have. Assumes nothing.
use Rattle.std.proofs.Common.{◌≡◌, ℕ, ◌-◌, ◌≤◌, max, ◌&&◌}
use Rattle.automata.specs.Choice.{has}
use Rattle.meeting.specs.All.{met_in}
use Rattle.sharing.specs.Shared.{has_choice_on}
use Rattle.sharing.proofs.shared_choices.Given as goal

abbrev pub invariant-loop-s : goal.invariant-loop-s
invariant-loop-s l =
    (l.s ≤ max l.level.from l.level.to) × ((d : ℕ) → has l.left d ≡ has 4294967295 d && met_in (has_choice_on l.sides d) l.sides.wide l.met l.level l.level.from (l.s - l.level.from))
