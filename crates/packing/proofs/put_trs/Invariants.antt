-- `packing::put_trs` meets its contract. The loop's invariant: i records are at the front, and the rest is as it was. Assumes nothing.
use Rattle.stored.specs.Pack.{tr_bytes}
use Rattle.tables.specs.Table.{tr_row}
use Rattle.packing.proofs.Rows.{Putting}
use Rattle.packing.proofs.put_trs.Given as goal

abbrev pub invariant-loop-i : goal.invariant-loop-i
invariant-loop-i l =
    Putting 12 tr_bytes (tr_row l.table.rows.now l.table.masks.now) 0 l.initial.out l.out l.inner l.i
