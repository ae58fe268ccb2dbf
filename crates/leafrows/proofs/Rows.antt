-- A row's leaf, and a row that is set. Assumes nothing.
use mathlib.Core.Path.{◌≡◌, refl}
use mathlib.Core.List.{List}
use Prim.Native.Nat.{ℕ}
use lib.IntN.{ℤ}
use Rattle.amplitude.specs.Leaf.{leaf}
use Rattle.tables.specs.Table.{leaf_row}
use Rattle.leafrows.specs.Row.{row_amp}
pub use Rattle.tables.proofs.Leaves.{set-length, set-outside, set_other, set_here}

-- a row's leaf is its four numbers at its k
pub row-leaf : (coefs : List ℤ) (j k : ℕ) → leaf_row coefs j k ≡ leaf k (row_amp coefs j)
unfolding leaf_row
row-leaf coefs j k = refl
