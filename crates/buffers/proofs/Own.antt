-- Arrays of zeros of just the named sizes have them, and keep them wherever they are lent. Assumes nothing.
use mathlib.Core.Path.{◌≡◌, ◌∙◌}
use mathlib.Core.List.{List}
use Prim.Native.Nat.{ℕ}
use lib.IntN.{ℤ, pos}
use lib.ListN.{length, replicate, length-replicate}
use Rattle.buffers.specs.Sizes.{rows_size, masks_size, coefs_size, counts_size, first_size, keys_size, heads_size, marks_size, hints_size, TableSized, ListsSized, MarksSized}

pub own-table : TableSized (replicate rows_size 0) (replicate masks_size 0) (replicate coefs_size (pos 0)) (replicate counts_size 0) (replicate first_size 0)
own-table = record {
  rows_long = length-replicate {A = ℕ} rows_size 0;
  masks_long = length-replicate {A = ℕ} masks_size 0;
  coefs_long = length-replicate coefs_size (pos 0);
  counts_long = length-replicate {A = ℕ} counts_size 0;
  first_long = length-replicate {A = ℕ} first_size 0;
}

pub own-lists : ListsSized (replicate keys_size 0) (replicate keys_size 0) (replicate keys_size 0) (replicate heads_size 0)
own-lists = record {
  cur_long = length-replicate {A = ℕ} keys_size 0;
  next_long = length-replicate {A = ℕ} keys_size 0;
  link_long = length-replicate {A = ℕ} keys_size 0;
  heads_long = length-replicate {A = ℕ} heads_size 0;
}

pub own-marks : MarksSized (replicate marks_size 0) (replicate marks_size 0) (replicate marks_size 0) (replicate hints_size 0)
own-marks = record {
  met_long = length-replicate {A = ℕ} marks_size 0;
  stack_long = length-replicate {A = ℕ} marks_size 0;
  kept_long = length-replicate {A = ℕ} marks_size 0;
  hints_long = length-replicate {A = ℕ} hints_size 0;
}

-- a table's slices came back as long as they were
pub sized-kept : {rows masks : List ℕ} {coefs : List ℤ} {counts first rows' masks' : List ℕ} {coefs' : List ℤ} {counts' first' : List ℕ} → TableSized rows masks coefs counts first
    → length rows' ≡ length rows → length masks' ≡ length masks → length coefs' ≡ length coefs → length counts' ≡ length counts → length first' ≡ length first
    → TableSized rows' masks' coefs' counts' first'
sized-kept s a b c d e = record { rows_long = a ∙ s.rows_long; masks_long = b ∙ s.masks_long; coefs_long = c ∙ s.coefs_long; counts_long = d ∙ s.counts_long; first_long = e ∙ s.first_long }
