-- `recording::put_tr_row` meets its contract: the start, then left in the tail, then right in the tail of that. Assumes nothing.
use mathlib.Core.Path.{refl}
use mathlib.Core.List.{◌++◌}
use Prim.Native.Nat.{◌+◌, ◌*◌}
use native.Mathlib.Omega.{arith}
use lib.ListN.{get_or}
use Rattle.stored.specs.Fields.{bytes16}
use Rattle.tables.specs.Table.{tr_row}
use Rattle.recording.specs.Record.{start_bytes}
use Rattle.putting.proofs.Front.{lent_on}
use Rattle.recording.proofs.put_tr_row.Goals as goal

pub returns : goal.returns
unfolding tr_row
returns c =
    let out = c.args.out.now in
    let rows = c.args.table.now.rows.now in
    let at = c.args.i * 3 in
    let start = start_bytes 84 82 (get_or rows at 0) (get_or c.args.table.now.masks.now c.args.i 0) in
    let lefted = lent_on out start (bytes16 (get_or rows (at + 1) 0)) refl (omega arith) c.put_start.ensures c.put_u16.ensures in
    lent_on out (start ++ bytes16 (get_or rows (at + 1) 0)) (bytes16 (get_or rows (at + 2) 0)) refl (omega arith) lefted c.put_u16-2.ensures
