-- One end state after the other is asked. Assumes nothing.
use Rattle.std.proofs.Common.{◌≡◌, List, ℕ, length, sym, ◌∙◌, refl}
use Rattle.meeting.specs.Where.{MetWhere}
use Rattle.meeting.proofs.WhereLaws.{pair_met, pair_refused}
use Rattle.meeting.proofs.meet_state.Goals as goal
use Rattle.meeting.proofs.meet_state.Goals.{then-passes, else-passes}

pub loop-e-preserved : goal.loop-e-preserved
loop-e-preserved g c = elim c.if-passes.branch [
  | then-passes w ↦ (
    c.if-passes.auto.met ∙ c.loop-e.invariant.0,
    rw w.met-is (pair_met (goal.F-post g c.args.passes.now) c.args.wide c.args.s c.args.start c.loop-e.e c.loop-e.invariant.1 w.meet.ensures),
  )
  | else-passes w ↦ (
    c.if-passes.auto.met ∙ c.loop-e.invariant.0,
    rw w.met-is (pair_refused (goal.F-post g c.args.passes.now) c.args.wide c.args.s c.args.start c.loop-e.e c.loop-e.invariant.1 _ refl (rw w.if-passes.false at c.passes.ensures)),
  )
]
