-- The mask has the choices that all end states so far have. Assumes nothing.
use Rattle.std.proofs.Common.{◌≡◌, ℕ, ◌-◌, ◌≤◌, max, ◌&&◌}
use Rattle.automata.specs.Choice.{has}
use Rattle.meeting.specs.All.{met_by}
use Rattle.sharing.specs.Shared.{has_choice_on}
use Rattle.sharing.proofs.shared_state.Given as goal

abbrev pub invariant-loop-e : goal.invariant-loop-e
invariant-loop-e l =
    (l.start ≤ l.from) × (l.from ≤ max l.start l.stop) × ((d : ℕ) → has l.left d ≡ has l.mask d && met_by (has_choice_on l.sides d) l.sides.wide l.met l.s l.start (l.from - l.start))

abbrev pub decreases-loop-e : goal.decreases-loop-e
decreases-loop-e l =
    l.stop - l.from
