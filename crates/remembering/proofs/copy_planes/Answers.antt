-- The planes passed are copied. Assumes nothing.
use borrow.Author.Rules.{rules}
use Rattle.remembering.proofs.PlaneLaws.{plane_spans, copies_next, later_spans}
use Rattle.remembering.proofs.copy_planes.Goals as goal

pub copy_level-requires : goal.copy_level-requires
copy_level-requires c =
    later_spans c.loop-done.invariant.long (plane_spans c.loop-done.done c.requires c.loop-done-test.true)

pub loop-done-preserved : goal.loop-done-preserved
loop-done-preserved c =
    copies_next c.loop-done.invariant c.loop-done-test.true c.requires.narrow (search rules) c.copy_level.ensures
