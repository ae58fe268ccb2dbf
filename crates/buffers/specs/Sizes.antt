-- The named size of each buffer in cells (docs/BUFFERS.md), and slices that have just these sizes.
use Rattle.std.specs.Prelude.{◌≡◌, List, ℕ, ℤ, length}

-- a table: three numbers and a mask to a record, four coefficients to a leaf, the states of each level, where each state's rows begin
abbrev pub rows_size : ℕ
rows_size = 9216

abbrev pub masks_size : ℕ
masks_size = 3072

abbrev pub coefs_size : ℕ
coefs_size = 4096

abbrev pub counts_size : ℕ
counts_size = 21

abbrev pub first_size : ℕ
first_size = 1025

-- the keys of a level and two more, their chains, and where each chain begins
abbrev pub keys_size : ℕ
keys_size = 1026

abbrev pub heads_size : ℕ
heads_size = 1024

-- the rows of the check's last phase: marks of pairs of an image state and an end state, and bytes for the states of blocks
abbrev pub marks_size : ℕ
marks_size = 16384

abbrev pub hints_size : ℕ
hints_size = 32768

-- the slices of a table have just their named sizes
pub record TableSized (rows masks : List ℕ) (coefs : List ℤ) (counts first : List ℕ) : Type 0 where
  pub rows_long : length rows ≡ rows_size
  pub masks_long : length masks ≡ masks_size
  pub coefs_long : length coefs ≡ coefs_size
  pub counts_long : length counts ≡ counts_size
  pub first_long : length first ≡ first_size

-- and so have the lists of keys
pub record ListsSized (cur next link heads : List ℕ) : Type 0 where
  pub cur_long : length cur ≡ keys_size
  pub next_long : length next ≡ keys_size
  pub link_long : length link ≡ keys_size
  pub heads_long : length heads ≡ heads_size

-- and so have the rows of the last phase
pub record MarksSized (met stack kept hints : List ℕ) : Type 0 where
  pub met_long : length met ≡ marks_size
  pub stack_long : length stack ≡ marks_size
  pub kept_long : length kept ≡ marks_size
  pub hints_long : length hints ≡ hints_size
