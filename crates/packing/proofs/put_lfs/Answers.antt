-- `packing::put_lfs` meets its contract. The loop's invariant: i records are at the front, and the rest is as it was. Assumes nothing.
use Prim.Native.Nat.{◌+◌}
use native.Mathlib.Omega.{arith}
use mathlib.Core.Path.{refl}
use Rattle.stored.specs.Pack.{lf_bytes}
use Rattle.tables.specs.Table.{lf_row, lf_rows}
use Rattle.packing.proofs.Rows.{lf_sized, begin, next, all}
use borrow.Author.Rules.{rules}
use Rattle.packing.proofs.put_lfs.Goals as goal

pub loop-i-init : goal.loop-i-init
loop-i-init c =
    begin 24 lf_bytes lf_sized (lf_row c.args.table.now.rows.now c.args.table.now.masks.now c.args.table.now.coefs.now) c.args.inner c.args.out.now c.args.leaves c.requires.0

pub put_lf_row-requires : goal.put_lf_row-requires
put_lf_row-requires c =
    (search rules, record { row = omega (arith, c.requires.1.rows); mask = omega (arith, c.requires.1.masks) }, c.requires.1.coefs c.loop-i.i c.loop-i-test.true)

pub loop-i-preserved : goal.loop-i-preserved
loop-i-preserved c =
    next 24 lf_bytes lf_sized (lf_row c.args.table.now.rows.now c.args.table.now.masks.now c.args.table.now.coefs.now) c.args.inner c.loop-i.invariant (c.args.inner + c.loop-i.i) c.loop-i-test.true refl c.put_lf_row.ensures

pub returns : goal.returns
unfolding lf_rows
returns c =
    all 24 lf_bytes lf_sized (lf_row c.args.table.now.rows.now c.args.table.now.masks.now c.args.table.now.coefs.now) c.args.inner c.loop-i.invariant c.loop-i-test.false
