-- The steps leave the records of the file in the slices, so the rows' states rise as the records' do, which is what the beginnings ask.
-- Assumes nothing.
use mathlib.Core.Path.{refl}
use Prim.Native.Nat.{◌+◌, ◌≤◌}
use native.Mathlib.Omega.{arith}
use lib.ListN.{length}
use Rattle.tables.proofs.Unpacking.{all_there, steps, rows-rise, unpacked}
use Rattle.tables.proofs.unpack.Goals as goal

pub fill_table-requires : goal.fill_table-requires
fill_table-requires c =
    record { inner = omega (arith, all_there c.requires.ready); leaves = omega (arith, all_there c.requires.ready); room = c.requires.roomy.table }

pub fill_coefs-requires : goal.fill_coefs-requires
fill_coefs-requires c =
    (omega (arith, all_there c.requires.ready), c.requires.roomy.amplitudes)

pub fill_counts-requires : goal.fill_counts-requires
fill_counts-requires c =
    rw c.from-levels.ensures (omega (arith, all_there c.requires.ready), c.requires.roomy.levels)

pub fill_first-requires : goal.fill_first-requires
fill_first-requires c =
    let room : c.args.form.n + 1 ≤ length c.fill_counts.new.counts = omega (arith, c.requires.roomy.levels) in
    let h = steps c.requires.ready (rw (c.from-levels.ensures, c.from.ensures) at c.fill_table.ensures) (rw (c.from-levels.ensures, c.from.ensures) at c.fill_coefs.ensures)
    (rw c.from-levels.ensures at c.fill_counts.ensures) room in
    (omega (arith, c.requires.roomy.table.wide), c.requires.roomy.begins, rows-rise c.requires.ready h)

pub returns : goal.returns
returns c =
    let room : c.args.form.n + 1 ≤ length c.fill_counts.new.counts = omega (arith, c.requires.roomy.levels) in
    let h = steps c.requires.ready (rw (c.from-levels.ensures, c.from.ensures) at c.fill_table.ensures) (rw (c.from-levels.ensures, c.from.ensures) at c.fill_coefs.ensures)
    (rw c.from-levels.ensures at c.fill_counts.ensures) room in
    record {
      unpacked = unpacked c.requires.ready h c.fill_first.ensures;
      long = record { rows = omega arith; masks = omega arith; coefs = omega arith; counts = omega arith; first = omega arith };
      same_slices = record { rows = refl; masks = refl; coefs = refl; counts = refl; first = refl };
    }
