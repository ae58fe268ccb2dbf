-- Word after word, up to the first that has a mark from there on. Assumes nothing.
use mathlib.Core.Path.{◌≡◌}
use Prim.Native.Nat.{◌-◌, ◌*◌}
use Rattle.meeting.proofs.NextLaws.{Passed}
use Rattle.meeting.proofs.next_met.Given as goal

abbrev pub invariant-loop-e : goal.invariant-loop-e
invariant-loop-e l =
    (l.row ≡ l.s * l.wide) × (l.to ≡ l.stop) × Passed l.wide l.met l.s l.from l.e

abbrev pub decreases-loop-e : goal.decreases-loop-e
decreases-loop-e l =
    l.to - l.e
