-- Document 01, "the coefficients stand in a lent row of signed 32-bit numbers, four to a leaf": one row read, and one row set.
use Rattle.std.specs.Prelude.{List, ℕ, ℤ}
use Rattle.amplitude.specs.Amp.{Amp}
use Rattle.amplitude.specs.Leaf.{numbers}
use Rattle.tables.specs.Table.{leaf_row}
pub use Rattle.tables.specs.Table.{row_set}

-- the four numbers of row j: those of its leaf at any k
abbrev pub row_amp : List ℤ → ℕ → Amp
row_amp coefs j = numbers (leaf_row coefs j 0)
