-- `checkjob::lend` meets its contract: what is lent are the fronts of the buffers, so that further cells stay. Assumes nothing.
use mathlib.Core.Path.{sym}
use Rattle.checkjob.proofs.Working.{fronts_sized, fronts_wiped}
use Rattle.checkjob.proofs.lend.Goals as goal

pub slice_bounds-work-end-2 : goal.slice_bounds-work-end-2
slice_bounds-work-end-2 c =
    sym (fronts_sized c.requires).met_long

pub slice_bounds-work-end-4 : goal.slice_bounds-work-end-4
slice_bounds-work-end-4 c =
    sym (fronts_sized c.requires).stack_long

pub slice_bounds-work-end-6 : goal.slice_bounds-work-end-6
slice_bounds-work-end-6 c =
    sym (fronts_sized c.requires).kept_long

pub slice_bounds-work-end-8 : goal.slice_bounds-work-end-8
slice_bounds-work-end-8 c =
    sym (fronts_sized c.requires).hints_long

pub work-requires : goal.work-requires
work-requires c =
    fronts_sized c.requires

pub returns : goal.returns
returns c =
    record {
      value = c.work.ensures.value;
      hints_after = fronts_wiped c.args.met.now c.args.stack.now c.args.kept.now c.args.hints.now c.work.ensures.met_after c.work.ensures.stack_after c.work.ensures.kept_after c.work.ensures.hints_after;
    }
