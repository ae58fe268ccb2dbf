-- `jobline::job_line` meets its contract: an input divides exactly if it is not refused with 18. Assumes nothing.
use mathlib.Core.Path.{ap, ◌∙◌}
use Prim.Native.Nat.{◌≤◌}
use native.Mathlib.Omega.{arith}
use lib.ListN.{length}
use Rattle.refusals.specs.Refused.{told}
use Rattle.replies.proofs.Makers.{is-refused}
use Rattle.lines.specs.Printed.{line_room}
use Rattle.jobline.specs.Line.{no_job}
use Rattle.jobline.proofs.Lines.{no_room, no_length, is_none, line-put, length-told}
use Rattle.jobline.proofs.job_line.Goals as goal

pub returns-then-out-lt-LINE_ROOM : goal.returns-then-out-lt-LINE_ROOM
returns-then-out-lt-LINE_ROOM c =
    record {
      value = no_length c.args.input.now c.args.out.now c.if-out-lt-LINE_ROOM.true;
      out_after = no_room c.args.input.now c.args.out.now c.if-out-lt-LINE_ROOM.true;
    }

pub put_job-requires : goal.put_job-requires
put_job-requires c =
    (c.in-Some.ensures, omega (arith, c.if-out-lt-LINE_ROOM.false))

pub returns-in-None : goal.returns-in-None
returns-in-None c =
    let room : line_room ≤ length c.args.out.now = omega (arith, c.if-out-lt-LINE_ROOM.false) in
    let bad = c.in-None.ensures in
    let is = c.from.ensures ∙ is-refused c.alone.result (ap told c.alone.ensures) in
    record {
      value = length-told c.args.input.now no_job 1 c.args.out.now is (omega arith) tt room (is_none c.args.input.now bad) c.put_line.ensures.value;
      out_after = line-put c.args.input.now no_job 1 c.args.out.now is (omega arith) tt room (is_none c.args.input.now bad) c.put_line.ensures.out_after;
    }
