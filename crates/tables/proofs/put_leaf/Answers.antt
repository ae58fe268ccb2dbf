-- The four numbers are stored at the row's own places. Assumes nothing.
use native.Mathlib.Omega.{arith}
use lib.IntN.{pos}
use lib.ListN.{get_or}
use Rattle.fields.proofs.Kept.{bits_kept}
use Rattle.tables.specs.Table.{row_set}
use Rattle.tables.proofs.put_leaf.Goals as goal

pub returns : goal.returns
unfolding row_set
returns c =
    let n = c.args.numbers in
    rw (bits_kept (get_or n 0 (pos 0)) (record { sfits = omega arith }), bits_kept (get_or n 1 (pos 0)) (record { sfits = omega arith }), bits_kept (get_or n 2 (pos 0)) (record { sfits = omega arith }), bits_kept (get_or n 3 (pos 0)) (record { sfits = omega arith }))
