-- The table that the leaves are read from: the amplitudes that its rows name.
use Rattle.std.specs.Prelude.{◌≡◌, true, List, ℕ, ◌+◌, ◌*◌, ◌≤◌, ℤ, length}
use Rattle.amplitude.specs.Amp.{Amp, in_range_a}
use Rattle.tables.specs.Table.{row_width, leaf_width}
use Rattle.lookup.specs.Lookup.{pair_row}
use Rattle.leafrows.specs.Row.{row_amp}

-- the four numbers that row i names
abbrev pub leaf_amp : List ℕ → List ℤ → ℕ → Amp
leaf_amp rows coefs i = row_amp coefs (pair_row rows i).0

-- row i is there, and what it names is there and in range
pub record Readable (rows : List ℕ) (coefs : List ℤ) (i : ℕ) : Type 0 where
  pub wide : i * row_width + row_width ≤ length rows
  pub deep : (pair_row rows i).0 * leaf_width + leaf_width ≤ length coefs
  pub range : in_range_a (leaf_amp rows coefs i) ≡ true
