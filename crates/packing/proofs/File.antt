-- A table's file is its head and its three runs of records, one after the other, so each begins where the sizes of those before it say, and the
-- whole is as long as the counts give. Assumes nothing.
use mathlib.Core.Path.{◌≡◌, sym, ap, ◌∙◌}
use mathlib.Core.List.{List, ◌++◌, append_assoc}
use Prim.Native.Nat.{ℕ, ◌+◌, ◌≤◌}
use native.Mathlib.Omega.{arith}
use lib.IntN.{ℤ}
use lib.ListN.{length, take, length-append}
use lib.Seq.{length-take-le}
use Rattle.automata.specs.Sets.{sum}
use Rattle.automata.specs.Members.{flat}
use Rattle.stored.specs.Form.{trs_at, lfs_at, file_size}
use Rattle.stored.specs.Pack.{lv_bytes, tr_bytes, lf_bytes, file_of}
use Rattle.stored.proofs.FieldLaws.{flat-length}
use Rattle.tables.specs.Table.{tr_row, lf_row, tr_rows, lf_rows, table_set}
use Rattle.packing.specs.Written.{head_bytes, table_form}
use Rattle.packing.proofs.Rows.{lv_sized, tr-sized, lf_sized, records-length, part_long}

-- the bytes of all LV, of all TR and of all LF records
abbrev pub lvs_of : ℕ → List ℕ → List ℕ
lvs_of n counts = flat lv_bytes (take (n + 1) counts)

abbrev pub trs_of : List ℕ → List ℕ → ℕ → List ℕ
trs_of rows masks inner = flat tr_bytes (tr_rows rows masks 0 inner)

abbrev pub lfs_of : List ℕ → List ℕ → List ℤ → ℕ → ℕ → List ℕ
lfs_of rows masks coefs inner leaves = flat lf_bytes (lf_rows rows masks coefs inner leaves)

-- the parts of the file `whole`, and where each of them begins
pub record Laid (n k states inner leaves : ℕ) (head lvs trs lfs whole : List ℕ) : Type 0 where
  pub parts : ((head ++ lvs) ++ trs) ++ lfs ≡ whole
  pub at_trs : length (head ++ lvs) ≡ trs_at (table_form n k states inner leaves)
  pub at_lfs : length ((head ++ lvs) ++ trs) ≡ lfs_at (table_form n k states inner leaves)
  pub long : length whole ≡ file_size (table_form n k states inner leaves)

module _ (n k states inner leaves : ℕ) (rows masks : List ℕ) (coefs : List ℤ) (counts : List ℕ) (levelled : n + 1 ≤ length counts)
    (summed : states ≡ sum (take (n + 1) counts)) where
  pub laid : Laid n k states inner leaves (head_bytes n k states inner leaves) (lvs_of n counts) (trs_of rows masks inner) (lfs_of rows masks coefs inner leaves)
      (file_of (table_set n k rows masks coefs counts inner leaves))
  unfolding file_of table_set tr_rows lf_rows
  laid =
      let head = head_bytes n k states inner leaves in
      let lvs = lvs_of n counts in
      let trs = trs_of rows masks inner in
      let lfs = lfs_of rows masks coefs inner leaves in
      let levels : length (take (n + 1) counts) ≡ n + 1 = length-take-le (n + 1) counts levelled in
      let lvs_long = flat-length 4 lv_bytes lv_sized (take (n + 1) counts) in
      let trs_long = part_long 12 tr_bytes tr-sized (tr_row rows masks) 0 inner in
      let lfs_long = part_long 24 lf_bytes lf_sized (lf_row rows masks coefs) inner leaves in
      let to-trs = length-append head lvs in
      let to-lfs = length-append (head ++ lvs) trs in
      let whole = file_of (table_set n k rows masks coefs counts inner leaves) in
      let all : ((head ++ lvs) ++ trs) ++ lfs ≡ whole = append_assoc (head ++ lvs) trs lfs ∙ append_assoc head lvs (trs ++ lfs)
      ∙ rw (records-length (tr_row rows masks) 0 inner, records-length (lf_row rows masks coefs) inner leaves, summed) in
      record {
        parts = all;
        at_trs = omega arith;
        at_lfs = omega arith;
        long = omega (arith, ap length (sym all), length-append ((head ++ lvs) ++ trs) lfs);
      }
