-- The end states met before `from` pass. Assumes nothing.
use Rattle.std.proofs.Common.{◌≡◌, Bool, ℕ, ◌-◌, ◌≤◌, ◌<◌}
use Rattle.meeting.proofs.NextLaws.{Passing}
use Rattle.meeting.proofs.met_pass.Given as goal

abbrev pub invariant-loop-e : goal.invariant-loop-e
invariant-loop-e g l =
    (l.start ≤ l.from)
    × ((t : ℕ → ℕ → Bool) → ((e : ℕ) (b : Bool) → l.start ≤ e → e < l.stop → goal.F-post g l.passes l.s e b → b ≡ t l.s e) → Passing t l.wide l.met l.s l.start l.stop l.from)

abbrev pub decreases-loop-e : goal.decreases-loop-e
decreases-loop-e g l =
    l.stop - l.from
