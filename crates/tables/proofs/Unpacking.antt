-- What the steps of unpacking leave is the set of the file, record by record; so the rows' states are those of its records. Assumes nothing.
use mathlib.Core.Path.{◌≡◌, refl, sym, ap, ◌∙◌, subst}
use mathlib.Core.List.{List}
use Prim.Native.Nat.{ℕ, ◌+◌, ◌*◌, ◌<◌, ◌≤◌}
use native.Mathlib.Omega.{arith}
use lib.IntN.{ℤ}
use lib.ListN.{length, get_or, take}
use Rattle.amplitude.specs.Leaf.{Leaf}
use Rattle.automata.specs.Sets.{rec, TR, QSet, sum}
use Rattle.stored.specs.Fields.{u16_at, u32_at, records_from}
use Rattle.stored.specs.Form.{Form, form_of, hd_size, lv_size, tr_size, lf_size, levels, trs_at, lfs_at, file_size, count_at, tr_at, lf_at, set_of}
use Rattle.stored.proofs.Reading.{records-count}
use Rattle.tables.specs.Table.{row_width, tr_row, lf_row, tr_rows, lf_rows, table_set}
use Rattle.tables.specs.States.{state_row, Rising}
use Rattle.tables.specs.Unpack.{taken, Tabled, Leaved, Counted, Begun}
use Rattle.tables.specs.Ready.{Ready, Unpacked}
use Rattle.tables.proofs.Listed.{same-records, take-records}
use Rattle.tables.proofs.TableLaws.{map_rec, named, leaf-row, row-states-rise}

-- the set that the bytes hold, by what HD says
set_by : List ℕ → Form → QSet
set_by s F = record {
  n = F.n;
  k = F.k;
  counts = records_from (count_at s) hd_size lv_size (levels F);
  inner = records_from (tr_at s) (trs_at F) tr_size F.inner;
  leaves = records_from (lf_at F.k s) (lfs_at F) lf_size F.leaves;
}

set-by : (s : List ℕ) → set_of s ≡ set_by s (form_of s)
unfolding set_of set_by
set-by s = refl

-- what the steps leave, for a file whose HD says F
pub record Steps (file : List ℕ) (F : Form) (rows masks : List ℕ) (coefs : List ℤ) (counts : List ℕ) : Type 0 where
  pub table : Tabled file (trs_at F) (lfs_at F) F.k F.inner F.leaves rows masks
  pub amplitudes : Leaved file (lfs_at F) F.leaves coefs
  pub counted : Counted file hd_size (levels F) counts
  pub room : levels F ≤ length counts

module _ (file : List ℕ) (F : Form) (rows masks : List ℕ) (coefs : List ℤ) (counts : List ℕ) (h : Steps file F rows masks coefs counts) where
  counts-are : take (levels F) counts ≡ records_from (count_at file) hd_size lv_size (levels F)
  counts-are = take-records counts (count_at file) hd_size lv_size (levels F) h.room h.counted.each

  inner-are : tr_rows rows masks 0 F.inner ≡ records_from (tr_at file) (trs_at F) tr_size F.inner
  unfolding tr_rows
  inner-are = same-records (tr_row rows masks) (tr_at file) 0 (trs_at F) 1 tr_size F.inner (λ i lt. let e : 0 + i * 1 ≡ i = omega arith in ap (tr_row rows masks) e ∙ h.table.inner_rows i lt)

  leaf-is : (i : ℕ) → i < F.leaves → lf_row rows masks coefs (F.inner + i) ≡ lf_at F.k file (lfs_at F + i * lf_size)
  unfolding lf_at
  leaf-is i lt =
      let at : ℕ = lfs_at F + i * lf_size in
      leaf-row rows masks coefs (F.inner + i) ∙ ap (map_rec (named coefs)) (h.table.leaf_rows i lt) ∙ ap (λ (x : Leaf). rec (u16_at file (at + 2)) (u32_at file (at + 4)) x) (h.amplitudes.each i F.k lt)

  leaves-are : lf_rows rows masks coefs F.inner F.leaves ≡ records_from (lf_at F.k file) (lfs_at F) lf_size F.leaves
  unfolding lf_rows
  leaves-are = same-records (lf_row rows masks coefs) (lf_at F.k file) F.inner (lfs_at F) 1 lf_size F.leaves
      (λ i lt. let e : F.inner + i * 1 ≡ F.inner + i = omega arith in ap (lf_row rows masks coefs) e ∙ leaf-is i lt)

  table_is : table_set F.n F.k rows masks coefs counts F.inner F.leaves ≡ set_by file F
  unfolding table_set set_by
  table_is = let a = counts-are in let b = inner-are in let c = leaves-are in cc

  lengths : (length (set_by file F).inner ≡ F.inner) × (length (set_by file F).leaves ≡ F.leaves)
  unfolding set_by
  lengths = (records-count (tr_at file) (trs_at F) tr_size F.inner, records-count (lf_at F.k file) (lfs_at F) lf_size F.leaves)

  -- leaf i's row names row i of the coefficients
  numbered : (i : ℕ) → i < F.leaves → get_or rows ((F.inner + i) * row_width + 1) 0 ≡ i
  unfolding tr_row
  numbered i lt = ap (λ (t : TR). (taken t).0) (h.table.leaf_rows i lt)

  by_form : (first : List ℕ) → sum (set_by file F).counts ≡ F.states → Begun rows (F.inner + F.leaves) (F.states + 1) first → Unpacked rows masks coefs counts first (set_by file F)
  unfolding set_by
  by_form first few b = record {
    holds = record {
      is = rw (lengths.0, lengths.1) table_is;
      begins = λ s le. rw (lengths.0, lengths.1) (b.each s (omega arith));
    };
    numbered = λ i lt. rw lengths.0 (numbered i (omega (arith, lengths.1)));
  }

-- ---- of a file that is ready, as the code reads its numbers
module _ {file : List ℕ} {n k states inner leaves : ℕ} (r : Ready file n k states inner leaves) where
  abbrev said : Form
  said = record { n = n; k = k; states = states; inner = inner; leaves = leaves }

  set_said : set_of file ≡ set_by file said
  set_said = set-by file ∙ ap (set_by file) r.form

  -- the bytes that the counts say are there
  pub all_there : file_size said ≤ length file
  all_there = rw r.form at r.whole

  module _ {rows masks : List ℕ} {coefs : List ℤ} {counts : List ℕ} where
    pub steps : Tabled file (trs_at said) (lfs_at said) k inner leaves rows masks → Leaved file (lfs_at said) leaves coefs → Counted file hd_size (levels said) counts
        → levels said ≤ length counts → Steps file said rows masks coefs counts
    steps t l c room = record { table = t; amplitudes = l; counted = c; room = room }

    pub rows-rise : Steps file said rows masks coefs counts → Rising (state_row rows) (inner + leaves)
    rows-rise h = row-states-rise n k rows masks coefs counts inner leaves (table_is file said rows masks coefs counts h ∙ sym set_said) r.ordered

    pub unpacked : {first : List ℕ} → Steps file said rows masks coefs counts → Begun rows (inner + leaves) (states + 1) first → Unpacked rows masks coefs counts first (set_of file)
    unpacked {first} h b =
        let is : set_by file said ≡ set_of file = sym set_said in
        subst (λ (Q : QSet). Unpacked rows masks coefs counts first Q) is (by_form file said rows masks coefs counts h first (ap (λ (Q : QSet). sum Q.counts) is ∙ r.levelled) b)
