-- The pairs of the image states before s pass. Assumes nothing.
use Rattle.std.proofs.Common.{◌≡◌, Bool, true, ℕ, ◌-◌, ◌≤◌, ◌<◌}
use Rattle.meeting.specs.All.{met_in}
use Rattle.meeting.proofs.all_met.Given as goal

abbrev pub invariant-loop-s : goal.invariant-loop-s
invariant-loop-s g l =
    (t : ℕ → ℕ → Bool)
    → ((s e : ℕ) (b : Bool) → l.level.from ≤ s → s < l.level.to → l.level.start ≤ e → e < l.level.stop → goal.F-post g l.passes s e b → b ≡ t s e)
    → met_in t l.wide l.met l.level l.level.from (l.s - l.level.from) ≡ true
