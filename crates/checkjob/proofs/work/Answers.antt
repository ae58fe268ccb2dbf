-- `checkjob::work` meets its contract: the check over the bounds of every set, then every row wiped. Assumes nothing.
use Rattle.checkjob.proofs.Working.{may_check, is-answer, wiped-whole}
use Rattle.checkjob.proofs.work.Goals as goal

pub check_files-reply-requires : goal.check_files-reply-requires
check_files-reply-requires c =
    may_check c.room_for.ensures c.room_for-2.ensures c.requires

pub returns : goal.returns
returns c =
    record {
      value = is-answer c.args.start.now c.args.circuit.now c.args.end.now c.args.terms.most _ _ c.room_for.ensures c.room_for-2.ensures c.check_files-reply.ensures;
      met_after = wiped-whole c.wipe_marks.ensures.met_after c.met-1.given c.requires.met_long;
      stack_after = wiped-whole c.wipe_marks.ensures.stack_after c.stack-1.given c.requires.stack_long;
      kept_after = wiped-whole c.wipe_marks.ensures.kept_after c.kept-1.given c.requires.kept_long;
      hints_after = wiped-whole c.wipe_marks.ensures.hints_after c.hints-1.given c.requires.hints_long;
    }
