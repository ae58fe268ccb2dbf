-- The end states before e are asked. Assumes nothing.
use Rattle.std.proofs.Common.{◌≡◌, length, ◌+◌}
use Rattle.meeting.specs.Where.{MetWhere}
use Rattle.meeting.proofs.meet_state.Given as goal

abbrev pub invariant-loop-e : goal.invariant-loop-e
invariant-loop-e g l =
    (length l.met ≡ length l.initial.met) × MetWhere (goal.F-post g l.passes) l.wide l.initial.met (record { from = l.s; to = l.s + 1; start = l.start; stop = l.e }) l.met
