-- The bytes passed are copied. Assumes nothing.
use Rattle.remembering.proofs.CopyLaws.{copy_begin, copy_next, copy_all}
use Rattle.remembering.proofs.copy_bytes.Goals as goal

pub loop-i-init : goal.loop-i-init
loop-i-init c =
    copy_begin c.args.from c.args.to c.args.base c.args.row.now c.args.rows.now c.requires.rising

pub loop-i-preserved : goal.loop-i-preserved
loop-i-preserved c =
    copy_next c.loop-i.invariant c.loop-i-test.true c.requires.target

pub returns : goal.returns
returns c =
    copy_all c.loop-i.invariant c.loop-i-test.false
