-- The slices of a table as one thing, and which of them the code's structs lend.
use Rattle.std.specs.Prelude.{◌≡◌, List, ℕ, ℤ, length}
use Rattle.automata.specs.Sets.{QSet}
use Rattle.tables.specs.declared.Table as shared
use Rattle.tables.specs.declared.TableMut.{TableMut}
use Rattle.setfile.specs.declared.Form.{Form}
use Rattle.tables.specs.Table.{table_set}
use Rattle.tables.specs.Ready.{Roomy, Unpacked}

-- the slices of a table
pub record Table : Type 0 where
  pub rows : List ℕ
  pub masks : List ℕ
  pub coefs : List ℤ
  pub counts : List ℕ
  pub first : List ℕ

abbrev pub table_of : List ℕ → List ℕ → List ℤ → List ℕ → List ℕ → Table
table_of rows masks coefs counts first = record { rows = rows; masks = masks; coefs = coefs; counts = counts; first = first }

-- the slices that are lent to be read
abbrev pub table_is : shared.Table → Table
table_is t = table_of t.rows.now t.masks.now t.coefs.now t.counts.now t.first.now

-- the slices that are lent to be written
abbrev pub lent_is : TableMut → Table
lent_is t = table_of t.rows.now t.masks.now t.coefs.now t.counts.now t.first.now

-- two tables whose slices are as long
pub record SameLengths (T T' : Table) : Type 0 where
  pub rows : length T'.rows ≡ length T.rows
  pub masks : length T'.masks ≡ length T.masks
  pub coefs : length T'.coefs ≡ length T.coefs
  pub counts : length T'.counts ≡ length T.counts
  pub first : length T'.first ≡ length T.first

-- two lendings of the same slices: a caller that lent its own through a struct then knows what stands in them
pub record SameLent (t t' : TableMut) : Type 0 where
  pub rows : t'.rows.ghost_name ≡ t.rows.ghost_name
  pub masks : t'.masks.ghost_name ≡ t.masks.ghost_name
  pub coefs : t'.coefs.ghost_name ≡ t.coefs.ghost_name
  pub counts : t'.counts.ghost_name ≡ t.counts.ghost_name
  pub first : t'.first.ghost_name ≡ t.first.ghost_name

-- the set of so many qubits, states and records that a table holds
abbrev pub set_on : Form → Table → QSet
set_on f T = table_set f.n f.k T.rows T.masks T.coefs T.counts f.inner f.leaves

-- what is said of slices, of a table
abbrev pub RoomyOn : Table → ℕ → ℕ → ℕ → ℕ → Type 0
RoomyOn T n states inner leaves = Roomy T.rows T.masks T.coefs T.counts T.first n states inner leaves

abbrev pub UnpackedOn : Table → QSet → Type 0
UnpackedOn T Q = Unpacked T.rows T.masks T.coefs T.counts T.first Q
