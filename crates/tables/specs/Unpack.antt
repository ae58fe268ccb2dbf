-- Document 01, "Stored form", record by record into a table: the row that a record becomes, and what each step of unpacking leaves in the slices.
use Rattle.std.specs.Prelude.{◌≡◌, List, ℕ, ◌+◌, ◌*◌, ◌<◌, ◌≤◌, ℤ, length, get_or}
use Rattle.automata.specs.Sets.{Rec, rec, TR}
use Rattle.stored.specs.Fields.{u16_at, u32_at}
use Rattle.stored.specs.Form.{lv_size, tr_size, lf_size, count_at, tr_at, lf_at}
use Rattle.records.specs.declared.Tr.{Tr}
use Rattle.records.specs.Read.{tr_of}
use Rattle.tables.specs.Table.{row_width, tr_row, leaf_row, rows_below}

-- the row of the LF record at a place, number i among them: "its row of coefficients and its k" stand where TR has left and right
abbrev pub leaf_read : ℕ → List ℕ → ℕ → ℕ → TR
leaf_read k s at i = rec (u16_at s (at + 2)) (u32_at s (at + 4)) (i, k)

-- the slices have room for so many rows
pub record Room (rows masks : List ℕ) (count : ℕ) : Type 0 where
  pub wide : count * row_width ≤ length rows
  pub long : count ≤ length masks

-- row i is t now, and the other rows are what they were
pub record Put (rows masks rows' masks' : List ℕ) (i : ℕ) (t : TR) : Type 0 where
  pub here : tr_row rows' masks' i ≡ t
  pub others : (j : ℕ) → (j ≡ i → ⊥) → tr_row rows' masks' j ≡ tr_row rows masks j

-- `count` rows from row `from` on are records that `read` gives for their numbers, and the rows before them are what they were
pub record Filled (read : ℕ → Tr → Type 0) (from count : ℕ) (rows masks rows' masks' : List ℕ) : Type 0 where
  pub each : (j : ℕ) → j < count → (t : Tr) × read j t × (tr_row rows' masks' (from + j) ≡ tr_of t)
  pub before : (j : ℕ) → j < from → tr_row rows' masks' j ≡ tr_row rows masks j

-- the rows are the TR records from one place on, then the LF records from another
pub record Tabled (file : List ℕ) (trs lfs k inner leaves : ℕ) (rows masks : List ℕ) : Type 0 where
  pub inner_rows : (i : ℕ) → i < inner → tr_row rows masks i ≡ tr_at file (trs + i * tr_size)
  pub leaf_rows : (i : ℕ) → i < leaves → tr_row rows masks (inner + i) ≡ leaf_read k file (lfs + i * lf_size) i

-- what a record has taken
abbrev pub taken : {X : Type 0} → Rec X → X
taken (rec s m x) = x

-- `count` rows of coefficients are those of the LF records from a place on
pub record Leaved (file : List ℕ) (start count : ℕ) (coefs : List ℤ) : Type 0 where
  pub each : (j k : ℕ) → j < count → leaf_row coefs j k ≡ taken (lf_at k file (start + j * lf_size))

-- `count` levels have the counts of the LV records from a place on
pub record Counted (file : List ℕ) (start count : ℕ) (counts : List ℕ) : Type 0 where
  pub each : (j : ℕ) → j < count → get_or counts j 0 ≡ count_at file (start + j * lv_size)

-- the rows where the first `count` states begin
pub record Begun (rows : List ℕ) (total count : ℕ) (first : List ℕ) : Type 0 where
  pub each : (s : ℕ) → s < count → get_or first s 0 ≡ rows_below rows s total
