-- `packing::put_trs` meets its contract. The loop's invariant: i records are at the front, and the rest is as it was. Assumes nothing.
use native.Mathlib.Omega.{arith}
use Rattle.stored.specs.Pack.{tr_bytes}
use Rattle.tables.specs.Table.{tr_row, tr_rows}
use Rattle.packing.proofs.Rows.{tr-sized, begin, next, all}
use Rattle.packing.proofs.put_trs.Goals as goal

pub loop-i-init : goal.loop-i-init
loop-i-init c =
    begin 12 tr_bytes tr-sized (tr_row c.args.table.now.rows.now c.args.table.now.masks.now) 0 c.args.out.now c.args.inner c.requires.0

pub loop-i-preserved : goal.loop-i-preserved
loop-i-preserved c =
    next 12 tr_bytes tr-sized (tr_row c.args.table.now.rows.now c.args.table.now.masks.now) 0 c.loop-i.invariant c.loop-i.i c.loop-i-test.true (omega arith) c.put_tr_row.ensures

pub returns : goal.returns
unfolding tr_rows
returns c =
    all 12 tr_bytes tr-sized (tr_row c.args.table.now.rows.now c.args.table.now.masks.now) 0 c.loop-i.invariant c.loop-i-test.false
