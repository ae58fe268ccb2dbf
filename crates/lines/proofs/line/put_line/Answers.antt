-- `lines::line::put_line` meets its contract: where there is room the line is put, else nothing. Assumes nothing.
use lib.ListN.{length}
use lib.Dec.{leb}
use borrow.Author.Tests.{leb-true}
use Rattle.amplitude.proofs.Equal.{both}
use Rattle.lines.proofs.ByKind.{room-left, no_room}
use Rattle.lines.proofs.line.put_line.Goals as goal

pub put_whole-requires : goal.put_whole-requires
put_whole-requires c =
    let b = both (leb 160 (length c.args.out.now)) (leb c.args.choices 21) c.if-fit.true in
    (leb-true 160 (length c.args.out.now) b.0, leb-true c.args.choices 21 b.1)

pub returns-then-fit : goal.returns-then-fit
returns-then-fit c =
    let told = room-left c.args.reply c.args.choices c.if-fit.true c.put_whole.ensures in
    record {
      value = told.0;
      out_after = told.1;
    }

pub returns : goal.returns
returns c =
    let told = no_room c.args.reply c.args.choices c.args.out.now c.if-fit.false in
    record {
      value = told.0;
      out_after = told.1;
    }
