-- `packing::put_lfs` meets its contract. The loop's invariant: i records are at the front, and the rest is as it was. Assumes nothing.
use Rattle.stored.specs.Pack.{lf_bytes}
use Rattle.tables.specs.Table.{lf_row}
use Rattle.packing.proofs.Rows.{Putting}
use Rattle.packing.proofs.put_lfs.Given as goal

abbrev pub invariant-loop-i : goal.invariant-loop-i
invariant-loop-i l =
    Putting 24 lf_bytes (lf_row l.table.rows.now l.table.masks.now l.table.coefs.now) l.inner l.initial.out l.out l.leaves l.i
