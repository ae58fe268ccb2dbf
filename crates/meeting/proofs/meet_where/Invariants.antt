-- The image states before s are asked. Assumes nothing.
use Rattle.std.proofs.Common.{◌≡◌, length}
use Rattle.meeting.specs.Where.{MetWhere}
use Rattle.meeting.proofs.meet_where.Given as goal

abbrev pub invariant-loop-s : goal.invariant-loop-s
invariant-loop-s g l =
    (length l.met ≡ length l.initial.met)
    × MetWhere (goal.F-post g l.passes) l.wide l.initial.met (record { from = l.level.from; to = l.s; start = l.level.start; stop = l.level.stop }) l.met
