-- The qubits left fall; on the same level `enter` calls `visit`, `visit` calls `branch`, and `branch` calls `descend`.
use Prim.Native.Nat.{◌+◌, ◌-◌, ◌*◌, ◌≤◌}
use mathlib.Core.Path.{◌≡◌}
use Rattle.automata.specs.Members.{choices, flat, up_to}
use Rattle.remembering.specs.Slots.{SameSizes}
use Rattle.walking.specs.On.{passes_on, branch_on}
use Rattle.walking.specs.Tallied.{tallied}
use Rattle.outcomes.specs.On.{SameRows}
use Rattle.entering.specs.On.{EnteredOn, StrodeOn}
use Rattle.entering.proofs.+branch_descend_enter_visit.Given as goal

abbrev pub decreases-branch : goal.decreases-branch
decreases-branch l = 4 * l.place.left + 2

abbrev pub decreases-descend : goal.decreases-descend
decreases-descend l = 4 * l.place.left + 1

abbrev pub decreases-enter : goal.decreases-enter
decreases-enter l = 4 * l.place.left + 4

abbrev pub decreases-visit : goal.decreases-visit
decreases-visit l = 4 * l.place.left + 3

-- the members of the choices left come to those of all of them; the block is as it was, and each word so far was found from it if it is clean
abbrev pub invariant-visit-loop-c : goal.invariant-visit-loop-c
invariant-visit-loop-c l = record {
  few : l.from ≤ 32;
  rows : SameRows l.initial.walk l.walk;
  sizes : SameSizes l.initial.slots l.slots;
  entered : EnteredOn l.task l.walk l.slots l.place l.root l.word;
  strode : StrodeOn l.task l.place l.initial.walk l.walk l.initial.slots.count l.slots 0 l.from l.clean;
  tally : tallied (passes_on l.task) l.task.allowance l.so_far (flat (branch_on l.task l.root l.word l.place.at l.place.left l.initial.walk.reached.now l.place.level.from l.place.level.to) (up_to l.from (32 - l.from))) ≡ tallied (passes_on l.task) l.task.allowance l.initial.so_far (flat (branch_on l.task l.root l.word l.place.at l.place.left l.initial.walk.reached.now l.place.level.from l.place.level.to) choices);
}

abbrev pub decreases-visit-loop-c : goal.decreases-visit-loop-c
decreases-visit-loop-c l = 32 - l.from
