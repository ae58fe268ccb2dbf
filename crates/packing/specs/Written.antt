-- Document 01, "It writes the new set at the front .. bytes after it .. stay": what packing leaves in an output, and what it asks of a table.
use Rattle.std.specs.Prelude.{List, ◌∷◌, ◌++◌, ℕ, ◌+◌, ◌*◌, ◌≤◌, ◌<◌, ℤ, pos, length, get_or}
use Rattle.stored.specs.Fields.{bytes16, bytes32, unsigned32}
use Rattle.stored.specs.Form.{Form}
use Rattle.tables.specs.Table.{row_width, leaf_width}
pub use Rattle.putting.specs.Front.{at_front}
pub use Rattle.tables.specs.Table.{amp_from}

-- HD: the mark, "version 1, n, k, zero (one byte each), states, inner, leaves (two bytes each)"
abbrev pub head_bytes : ℕ → ℕ → ℕ → ℕ → ℕ → List ℕ
head_bytes n k states inner leaves = 72 ∷ 68 ∷ 1 ∷ n ∷ k ∷ 0 ∷ (bytes16 states ++ (bytes16 inner ++ bytes16 leaves))

-- the coefficient at a place
abbrev pub coef_bytes : List ℤ → ℕ → List ℕ
coef_bytes coefs at = bytes32 (unsigned32 (get_or coefs at (pos 0)))

-- what HD says of a table
abbrev pub table_form : ℕ → ℕ → ℕ → ℕ → ℕ → Form
table_form n k states inner leaves = record { n = n; k = k; states = states; inner = inner; leaves = leaves }

-- the row of coefficients that the leaf in row i names is there
abbrev pub HasCoefs : List ℕ → List ℤ → ℕ → Type 0
HasCoefs rows coefs i = get_or rows (i * row_width + 1) 0 * leaf_width + leaf_width ≤ length coefs

-- the slices have the rows of so many TR and LF records
pub record HasRows (rs ms : List ℕ) (cs : List ℤ) (inner leaves : ℕ) : Type 0 where
  pub rows : (inner + leaves) * row_width ≤ length rs
  pub masks : inner + leaves ≤ length ms
  pub coefs : (i : ℕ) → i < leaves → HasCoefs rs cs (inner + i)
