-- Document 01, "Unpacked, the coefficients stand in a lent row of signed 32-bit numbers, four to a leaf": a set in lent slices.
-- `rows` has three numbers to a record: its state, then for TR left and right, for LF the number of its row of coefficients and its k.
-- `masks` has one mask to a record. All TR records stand first, in their order, then all LF records, in theirs: record i of the file is row i.
-- `coefs` has four numbers to a leaf. `counts` has the states on each level. `first` has for each state, and one past the last, the row where
-- its records begin: the number of rows of smaller states.
use Rattle.std.specs.Prelude.{◌≡◌, cond, List, ℕ, zero, suc, ◌+◌, ◌*◌, ◌≤◌, ℤ, pos, ltb, length, get_or, take, set}
use Rattle.amplitude.specs.Amp.{Amp, amp}
use Rattle.amplitude.specs.Leaf.{Leaf, leaf}
use Rattle.automata.specs.Sets.{rec, TR, LF, QSet, sum}
use Rattle.stored.specs.Fields.{records_from}

abbrev pub row_width : ℕ
row_width = 3

abbrev pub leaf_width : ℕ
leaf_width = 4

-- the TR record of row i
unfoldable pub tr_row : List ℕ → List ℕ → ℕ → TR
tr_row rows masks i = rec (get_or rows (i * row_width) 0) (get_or masks i 0) (get_or rows (i * row_width + 1) 0, get_or rows (i * row_width + 2) 0)

-- the amplitude in row j of the coefficients, with its k
unfoldable pub leaf_row : List ℤ → ℕ → ℕ → Leaf
leaf_row coefs j k =
    leaf k (amp (get_or coefs (j * leaf_width) (pos 0)) (get_or coefs (j * leaf_width + 1) (pos 0)) (get_or coefs (j * leaf_width + 2) (pos 0)) (get_or coefs (j * leaf_width + 3) (pos 0)))

-- four numbers, from a place on, as an amplitude
abbrev pub amp_from : List ℤ → ℕ → Amp
amp_from coefs at = amp (get_or coefs at (pos 0)) (get_or coefs (at + 1) (pos 0)) (get_or coefs (at + 2) (pos 0)) (get_or coefs (at + 3) (pos 0))

-- the coefficients with row j set
unfoldable pub row_set : List ℤ → ℕ → Amp → List ℤ
row_set coefs j (amp a b c d) =
    set (set (set (set coefs (j * leaf_width) a) (j * leaf_width + 1) b) (j * leaf_width + 2) c) (j * leaf_width + 3) d

-- the LF record of row i
unfoldable pub lf_row : List ℕ → List ℕ → List ℤ → ℕ → LF
lf_row rows masks coefs i = rec (get_or rows (i * row_width) 0) (get_or masks i 0) (leaf_row coefs (get_or rows (i * row_width + 1) 0) (get_or rows (i * row_width + 2) 0))

-- the records of `count` rows from row `from` on
unfoldable pub tr_rows : List ℕ → List ℕ → ℕ → ℕ → List TR
tr_rows rows masks from count = records_from (tr_row rows masks) from 1 count

unfoldable pub lf_rows : List ℕ → List ℕ → List ℤ → ℕ → ℕ → List LF
lf_rows rows masks coefs from count = records_from (lf_row rows masks coefs) from 1 count

-- how many of the first `count` rows are of a state below s
unfoldable pub rows_below : List ℕ → ℕ → ℕ → ℕ
rows_below rows s zero = 0
rows_below rows s (suc count) = cond (ltb (get_or rows (count * row_width) 0) s) (suc (rows_below rows s count)) (rows_below rows s count)

-- the set that the slices hold, with n qubits, k, and so many TR and LF records
unfoldable pub table_set : ℕ → ℕ → List ℕ → List ℕ → List ℤ → List ℕ → ℕ → ℕ → QSet
table_set n k rows masks coefs counts inner leaves =
    record { n = n; k = k; counts = take (n + 1) counts; inner = tr_rows rows masks 0 inner; leaves = lf_rows rows masks coefs inner leaves }

-- what a table's slices hold
pub record Holds (rows masks : List ℕ) (coefs : List ℤ) (counts first : List ℕ) (Q : QSet) : Type 0 where
  pub is : table_set Q.n Q.k rows masks coefs counts (length Q.inner) (length Q.leaves) ≡ Q
  pub begins : (s : ℕ) → s ≤ sum Q.counts → get_or first s 0 ≡ rows_below rows s (length Q.inner + length Q.leaves)
