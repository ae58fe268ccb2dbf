-- Document 01, "Stored form": what TR and LF begin with, and what a row of a table must have to be written.
use Rattle.std.specs.Prelude.{List, ◌∷◌, ◌++◌, ℕ, ◌+◌, ◌*◌, ◌≤◌, ◌<◌, length}
use Rattle.stored.specs.Fields.{bytes16, bytes32}
use Rattle.tables.specs.Table.{row_width}

-- what TR and LF begin with: a mark, "state (2), mask (4)"
abbrev pub start_bytes : ℕ → ℕ → ℕ → ℕ → List ℕ
start_bytes first second state mask = first ∷ second ∷ (bytes16 state ++ bytes32 mask)

-- row i is there: its three numbers and its mask
pub record HasRow (rs ms : List ℕ) (i : ℕ) : Type 0 where
  pub row : i * row_width + row_width ≤ length rs
  pub mask : i < length ms
