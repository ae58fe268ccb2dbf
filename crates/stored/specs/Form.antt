-- Document 01, "Stored form": what HD says, where each kind of record stands, and the set that the bytes hold.
use Rattle.std.specs.Prelude.{List, ℕ, ◌+◌, ◌*◌, get_or}
use Rattle.amplitude.specs.Amp.{amp}
use Rattle.amplitude.specs.Leaf.{leaf}
use Rattle.automata.specs.Sets.{TR, tr, LF, rec, QSet}
use Rattle.stored.specs.Fields.{u16_at, u32_at, i32_at, records_from}

-- HD: "version 1, n, k, zero (one byte each), states, inner, leaves (two bytes each)"
pub record Form : Type 0 where
  pub n : ℕ
  pub k : ℕ
  pub states : ℕ
  pub inner : ℕ
  pub leaves : ℕ

unfoldable pub form_of : List ℕ → Form
form_of s = record { n = get_or s 3 0; k = get_or s 4 0; states = u16_at s 6; inner = u16_at s 8; leaves = u16_at s 10 }

-- the records' sizes: HD 12, LV 4, TR 12, LF 24
abbrev pub hd_size : ℕ
hd_size = 12

abbrev pub lv_size : ℕ
lv_size = 4

abbrev pub tr_size : ℕ
tr_size = 12

abbrev pub lf_size : ℕ
lf_size = 24

-- LV: "states on this level; n+1 records"; then all TR; then all LF
abbrev pub levels : Form → ℕ
levels F = F.n + 1

abbrev pub trs_at : Form → ℕ
trs_at F = hd_size + lv_size * levels F

abbrev pub lfs_at : Form → ℕ
lfs_at F = trs_at F + tr_size * F.inner

abbrev pub file_size : Form → ℕ
file_size F = lfs_at F + lf_size * F.leaves

unfoldable pub count_at : List ℕ → ℕ → ℕ
count_at s at = u16_at s (at + 2)

-- TR: "state (2), mask (4), left (2), right (2)"
unfoldable pub tr_at : List ℕ → ℕ → TR
tr_at s at = tr (u16_at s (at + 2)) (u32_at s (at + 4)) (u16_at s (at + 8)) (u16_at s (at + 10))

-- LF: "state (2), mask (4), a, b, c, d (4 each)", at the set's k
unfoldable pub lf_at : ℕ → List ℕ → ℕ → LF
lf_at k s at = rec (u16_at s (at + 2)) (u32_at s (at + 4)) (leaf k (amp (i32_at s (at + 8)) (i32_at s (at + 12)) (i32_at s (at + 16)) (i32_at s (at + 20))))

-- the set that the bytes hold
unfoldable pub set_of : List ℕ → QSet
set_of s =
    let F = form_of s in
    record {
      n = F.n;
      k = F.k;
      counts = records_from (count_at s) hd_size lv_size (levels F);
      inner = records_from (tr_at s) (trs_at F) tr_size F.inner;
      leaves = records_from (lf_at F.k s) (lfs_at F) lf_size F.leaves;
    }
