-- The members of the roots left come to those of all roots. Assumes nothing.
use mathlib.Core.Path.{◌≡◌}
use Prim.Native.Nat.{◌-◌}
use Rattle.automata.specs.Members.{flat, up_to}
use Rattle.walking.specs.On.{passes_on, root_on}
use Rattle.walking.specs.Tallied.{tallied}
use Rattle.entering.specs.On.{StartedOn}
use Rattle.striding.proofs.visit_roots.Given as goal

abbrev pub invariant-loop-r : goal.invariant-loop-r
invariant-loop-r l = record {
  started : StartedOn l.task l.walk l.slots;
  tally : tallied (passes_on l.task) l.task.allowance l.so_far (flat (root_on l.task) (up_to l.r (l.r-end - l.r))) ≡ tallied (passes_on l.task) l.task.allowance l.initial.so_far (flat (root_on l.task) (up_to 0 l.r-end));
}
