-- `packing::put_lf_row` meets its contract: the start, then in the tail the coefficients that the row names. Assumes nothing.
use mathlib.Core.Path.{refl, ◌∙◌}
use Prim.Native.Nat.{◌*◌}
use native.Mathlib.Omega.{arith}
use lib.ListN.{get_or}
use Rattle.stored.specs.Pack.{amp_bytes}
use Rattle.tables.specs.Table.{leaf_row, lf_row}
use Rattle.recording.specs.Record.{start_bytes}
use Rattle.packing.specs.Written.{amp_from}
use Rattle.putting.proofs.Front.{lent_on}
use Rattle.packing.proofs.put_lf_row.Goals as goal

pub returns : goal.returns
unfolding lf_row leaf_row
returns c =
    let start = start_bytes 76 70 (get_or c.args.table.now.rows.now (c.args.i * 3) 0) (get_or c.args.table.now.masks.now c.args.i 0) in
    lent_on c.args.out.now start (amp_bytes (amp_from c.args.table.now.coefs.now (c.from-leaf.result * 4))) refl (omega arith) c.put_start.ensures c.put_amp.ensures
    ∙ simp c.from-leaf.ensures
