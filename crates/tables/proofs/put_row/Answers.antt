-- The three numbers and the mask are stored at the row's own places. Assumes nothing.
use native.Mathlib.Omega.{arith}
use Rattle.tables.proofs.Rows.{put-row}
use Rattle.tables.proofs.put_row.Goals as goal

pub returns : goal.returns
returns c =
    put-row c.args.rows.now c.args.masks.now c.args.i c.args.row.state c.args.row.mask c.args.row.left c.args.row.right (omega arith) (omega arith)
