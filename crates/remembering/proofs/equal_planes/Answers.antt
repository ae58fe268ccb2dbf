-- The planes passed are the same. Assumes nothing.
use borrow.Author.Rules.{rules}
use Rattle.remembering.proofs.CopyLaws.{cells-equal}
use Rattle.remembering.proofs.PlaneLaws.{planes-next}
use Rattle.remembering.proofs.equal_planes.Goals as goal

pub loop-j-preserved : goal.loop-j-preserved
loop-j-preserved c =
    planes-next c.args.from c.args.to c.args.plane c.args.base c.args.stack.now c.args.kept.now c.loop-j.j c.loop-j.invariant (cells-equal _ _ c.args.base c.args.stack.now c.args.kept.now (search rules))
