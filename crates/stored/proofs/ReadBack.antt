-- A well-formed set's bytes pass rules 1 to 10, have the length that its counts give, and read back as that set. Assumes nothing.
use mathlib.Core.Path.{◌≡◌, refl, sym, ap, ◌∙◌}
use mathlib.Core.Bool.{true}
use mathlib.Core.List.{List, [], ◌∷◌, ◌++◌, map, append_assoc}
use Prim.Native.Nat.{ℕ, suc, ◌+◌, ◌*◌, ◌/◌, ◌%◌, ◌^◌, ◌<◌, ◌≤◌}
use native.Mathlib.Omega.{arith}
use lib.ListN.{length, length-append}
use lib.IntN.{ℤ, nat_abs}
use borrow.Author.Tests.{eq-eqb, ne_eqb, le-leb}
use Rattle.amplitude.specs.Amp.{amp, most}
use Rattle.amplitude.specs.Leaf.{leaf}
use Rattle.automata.specs.Sets.{rec, TR, LF, QSet, sum, roots}
use Rattle.automata.specs.Members.{flat}
use Rattle.automata.proofs.Lists.{Each}
use Rattle.stored.specs.Refusal.{good}
use Rattle.stored.specs.Fields.{u16_at, u32_at, i32_at, signed32, unsigned32, mark_at, records_from}
use Rattle.stored.specs.Form.{Form, form_of, hd_size, lv_size, tr_size, lf_size, trs_at, lfs_at, file_size, count_at, tr_at, lf_at, set_of}
use Rattle.stored.specs.Rules.{Bounds, set_bounds, passes, level_of, head_ok, version_ok, ranges_ok, counts_ok, length_ok, lv_marks, tr_marks, lf_marks, later_marks, marks_ok, levels_ok}
use Rattle.stored.specs.Judge.{judge_set}
use Rattle.stored.specs.Pack.{hd_bytes, lv_bytes, tr_bytes, lf_bytes, file_of}
use Rattle.stored.proofs.FieldLaws.{u16_seam, u32_seam, i32_seam, mark_seam, split16, split32, signed-unsigned, unsigned_small, flat-length, read_all}
use Rattle.stored.proofs.ScanLaws.{each-passes, passes_append}
use Rattle.stored.proofs.WellFormed.{Narrow, WellFormed, mask_in, k_in, FineTR, FineLF, in_range_lem, trs_fine, lfs_fine, state_small}

-- ---- each kind of record reads back
pub record SmallTR (s m l r : ℕ) : Type 0 where
  pub state : s < 65536
  pub mask : m < 2 ^ 32
  pub left : l < 65536
  pub right : r < 65536

abbrev FitsTR : TR → Type 0
FitsTR (rec s m p) = SmallTR s m p.0 p.1

lv_sized : (c : ℕ) → length (lv_bytes c) ≡ lv_size
lv_sized c = refl

tr-sized : (t : TR) → length (tr_bytes t) ≡ tr_size
tr-sized (rec s m p) = refl

lf_sized : (l : LF) → length (lf_bytes l) ≡ lf_size
lf_sized (rec s m (leaf k (amp a b c d))) = refl

count_reads : (pre post : List ℕ) (c : ℕ) → c < 65536 → count_at (pre ++ (lv_bytes c ++ post)) (length pre) ≡ c
unfolding count_at u16_at
count_reads pre post c h = u16_seam pre (lv_bytes c ++ post) 2 ∙ split16 c h

tr_reads : (pre post : List ℕ) (t : TR) → FitsTR t → tr_at (pre ++ (tr_bytes t ++ post)) (length pre) ≡ t
unfolding tr_at u16_at u32_at
tr_reads pre post (rec s m p) h =
    let x : List ℕ = tr_bytes (rec s m p) ++ post in
    let a = u16_seam pre x 2 ∙ split16 s h.state in
    let b = u32_seam pre x 4 ∙ split32 m h.mask in
    let c = u16_seam pre x 8 ∙ split16 p.0 h.left in
    let d = u16_seam pre x 10 ∙ split16 p.1 h.right in
    rw (a, b, c, d)

-- a leaf of the set's k with its numbers in range
pub record SmallLF (k s m : ℕ) (a b c d : ℤ) (l : ℕ) : Type 0 where
  pub state : s < 65536
  pub mask : m < 2 ^ 32
  pub range : (nat_abs a ≤ most) × (nat_abs b ≤ most) × (nat_abs c ≤ most) × (nat_abs d ≤ most)
  pub one_k : l ≡ k

abbrev FitsLF : ℕ → LF → Type 0
FitsLF k (rec s m (leaf l (amp a b c d))) = SmallLF k s m a b c d l

coef_reads : (z : ℤ) → nat_abs z ≤ most
    → signed32 (unsigned32 z % 256 + unsigned32 z / 256 % 256 * 256 + (unsigned32 z / 65536 % 256 + unsigned32 z / 16777216 % 256 * 256) * 65536) ≡ z
coef_reads z h = ap signed32 (split32 (unsigned32 z) (unsigned_small z h)) ∙ signed-unsigned z h

lf_reads : (k : ℕ) (pre post : List ℕ) (l : LF) → FitsLF k l → lf_at k (pre ++ (lf_bytes l ++ post)) (length pre) ≡ l
unfolding lf_at i32_at u16_at u32_at
lf_reads k pre post (rec s m (leaf l (amp a b c d))) h =
    let x : List ℕ = lf_bytes (rec s m (leaf l (amp a b c d))) ++ post in
    let e₁ = u16_seam pre x 2 ∙ split16 s h.state in
    let e₂ = u32_seam pre x 4 ∙ split32 m h.mask in
    let e₃ = i32_seam pre x 8 ∙ coef_reads a h.range.0 in
    let e₄ = i32_seam pre x 12 ∙ coef_reads b h.range.1 in
    let e₅ = i32_seam pre x 16 ∙ coef_reads c h.range.2 in
    let e₆ = i32_seam pre x 20 ∙ coef_reads d h.range.3 in
    rw (e₁, e₂, e₃, e₄, e₅, e₆, h.one_k)

tr-marked : (pre post : List ℕ) (t : TR) → Unit {0} → mark_at 84 82 (pre ++ (tr_bytes t ++ post)) (length pre) ≡ true
unfolding mark_at
tr-marked pre post (rec s m p) h = mark_seam 84 82 pre (tr_bytes (rec s m p) ++ post)

lf_marked : (pre post : List ℕ) (l : LF) → Unit {0} → mark_at 76 70 (pre ++ (lf_bytes l ++ post)) (length pre) ≡ true
unfolding mark_at
lf_marked pre post (rec s m x) h = mark_seam 76 70 pre (lf_bytes (rec s m x) ++ post)

lv_marked : (pre post : List ℕ) (c : ℕ) → Unit {0} → mark_at 76 86 (pre ++ (lv_bytes c ++ post)) (length pre) ≡ true
unfolding mark_at
lv_marked pre post c h = mark_seam 76 86 pre (lv_bytes c ++ post)

map_same : {X : Type 0} (xs : List X) → map (λ x. x) xs ≡ xs
map_same [] = refl
map_same {X} (x ∷ xs) = ap (λ (l : List X). x ∷ l) (map_same xs)

append_none : (s : List ℕ) → s ++ [] ≡ s
append_none [] = refl
append_none (x ∷ s) = ap (λ (l : List ℕ). x ∷ l) (append_none s)

each_unit : {X : Type 0} (xs : List X) → Each (λ x. Unit {0}) xs
each_unit [] = tt
each_unit (x ∷ xs) = (tt, each_unit xs)

all_true : {X : Type 0} (xs : List X) → passes (λ ok. ok) (map (λ x. true) xs) ≡ true
all_true {X} xs = each-passes (λ ok. ok) (map (λ x. true) xs) (go xs)
  where
    go : (ys : List X) → Each (λ ok. ok ≡ true) (map (λ x. true) ys)
    go [] = tt
    go (y ∷ ys) = (refl, go ys)

-- ---- the whole file
abbrev pub form_for : QSet → Form
form_for Q = record { n = Q.n; k = Q.k; states = sum Q.counts; inner = length Q.inner; leaves = length Q.leaves }

module _ (b : Bounds) (narrow : Narrow b) (Q : QSet) (w : WellFormed b Q) where
  lvs : List ℕ
  lvs = flat lv_bytes Q.counts

  trs : List ℕ
  trs = flat tr_bytes Q.inner

  lfs : List ℕ
  lfs = flat lf_bytes Q.leaves

  -- the file, with the seam before each kind of record
  abbrev front : List ℕ
  front = hd_bytes Q ++ lvs

  at_trs : file_of Q ≡ front ++ (trs ++ lfs)
  unfolding file_of lvs trs lfs
  at_trs = sym (append_assoc (hd_bytes Q) lvs (trs ++ lfs))

  at_lfs : file_of Q ≡ (front ++ trs) ++ (lfs ++ [])
  at_lfs = at_trs ∙ sym (append_assoc front trs lfs) ∙ ap (λ (s : List ℕ). (front ++ trs) ++ s) (sym (append_none lfs))

  lvs_long : length lvs ≡ 4 * length Q.counts
  unfolding lvs
  lvs_long = flat-length lv_size lv_bytes lv_sized Q.counts

  trs_long : length trs ≡ 12 * length Q.inner
  unfolding trs
  trs_long = flat-length tr_size tr_bytes tr-sized Q.inner

  lfs_long : length lfs ≡ 24 * length Q.leaves
  unfolding lfs
  lfs_long = flat-length lf_size lf_bytes lf_sized Q.leaves

  front_long : length front ≡ trs_at (form_for Q)
  front_long = length-append (hd_bytes Q) lvs ∙ (let e = lvs_long in let c = w.counted in omega arith)

  inner-long : length (front ++ trs) ≡ lfs_at (form_for Q)
  inner-long = length-append front trs ∙ (let e = trs_long in let f = front_long in omega arith)

  -- "length is .. what the counts give"
  pub file_length : length (file_of Q) ≡ file_size (form_for Q)
  file_length =
      ap length at_trs ∙ ap length (sym (append_assoc front trs lfs)) ∙ length-append (front ++ trs) lfs ∙ (let e = inner-long in let f = lfs_long in omega arith)

  form_read : form_of (file_of Q) ≡ form_for Q
  unfolding form_of file_of u16_at
  form_read =
      let a = split16 (sum Q.counts) (omega (arith, w.states, narrow.states)) in
      let c = split16 (length Q.inner) (omega (arith, w.inner, narrow.inner)) in
      let d = split16 (length Q.leaves) (omega (arith, w.leaves, narrow.leaves)) in
      rw (a, c, d)

  -- ---- the fields fit their bytes
  counts-fit : (cs : List ℕ) → sum cs ≤ b.states → Each (λ c. c < 65536) cs
  counts-fit [] h = tt
  counts-fit (c ∷ cs) h = (omega (arith, narrow.states), counts-fit cs (omega arith))

  trs_fit : Each FitsTR Q.inner
  trs_fit = go Q.inner (trs_fine b Q w) w.tr_masks
    where
      small : (s : ℕ) → level_of Q s ≤ suc Q.n → s < 65536
      small s h = omega (arith, state_small b Q w s h, w.states, narrow.states)

      go : (ts : List TR) → Each (FineTR Q) ts → Each (λ t. mask_in t < 2 ^ 32) ts → Each FitsTR ts
      go [] f m = tt
      go (rec s x p ∷ ts) f m =
          let t = f.0 in
          (record { state = small s (omega (arith, t.state)); mask = m.0; left = small p.0 (omega (arith, t.left, t.state)); right = small p.1 (omega (arith, t.right, t.state)) }, go ts f.1 m.1)

  lfs_fit : Each (FitsLF Q.k) Q.leaves
  lfs_fit = go Q.leaves (lfs_fine b Q w) w.lf_masks w.one_k
    where
      go : (ls : List LF) → Each (FineLF Q) ls → Each (λ l. mask_in l < 2 ^ 32) ls
          → Each (λ l. k_in l ≡ Q.k) ls → Each (FitsLF Q.k) ls
      go [] f m k = tt
      go (rec s x (leaf l (amp a c d e)) ∷ ls) f m k =
          let t = f.0 in
          (record { state = omega (arith, state_small b Q w s (omega (arith, t.state)), w.states, narrow.states); mask = m.0; range = in_range_lem a c d e t.range; one_k = k.0 }, go ls f.1 m.1 k.1)

  counts_read : records_from (count_at (file_of Q)) hd_size lv_size (Q.n + 1) ≡ Q.counts
  unfolding file_of lvs trs lfs
  counts_read =
      ap (records_from (count_at (file_of Q)) hd_size lv_size) (sym w.counted)
      ∙ read_all lv_size lv_bytes lv_sized (λ c. c < 65536) count_at (λ c. c) count_reads Q.counts (hd_bytes Q) (trs ++ lfs) hd_size (counts-fit Q.counts w.states) refl
      ∙ map_same Q.counts

  inner_read : records_from (tr_at (file_of Q)) (trs_at (form_for Q)) tr_size (length Q.inner) ≡ Q.inner
  unfolding trs
  inner_read =
      ap (λ (s : List ℕ). records_from (tr_at s) (trs_at (form_for Q)) tr_size (length Q.inner)) at_trs
      ∙ read_all tr_size tr_bytes tr-sized FitsTR tr_at (λ t. t) tr_reads Q.inner front lfs (trs_at (form_for Q)) trs_fit (sym front_long)
      ∙ map_same Q.inner

  leaves_read : records_from (lf_at Q.k (file_of Q)) (lfs_at (form_for Q)) lf_size (length Q.leaves) ≡ Q.leaves
  unfolding lfs
  leaves_read =
      ap (λ (s : List ℕ). records_from (lf_at Q.k s) (lfs_at (form_for Q)) lf_size (length Q.leaves)) at_lfs
      ∙ read_all lf_size lf_bytes lf_sized (FitsLF Q.k) (lf_at Q.k) (λ l. l) (lf_reads Q.k) Q.leaves (front ++ trs) [] (lfs_at (form_for Q)) lfs_fit (sym inner-long)
      ∙ map_same Q.leaves

  set_read : set_of (file_of Q) ≡ Q
  unfolding set_of
  set_read = rw (form_read) (rw (counts_read, inner_read, leaves_read) refl)

  -- ---- the rules
  lv_marks_lem : passes (λ ok. ok) (records_from (mark_at 76 86 (file_of Q)) hd_size lv_size (Q.n + 1)) ≡ true
  unfolding file_of lvs trs lfs
  lv_marks_lem =
      ap (λ (n : ℕ). passes (λ ok. ok) (records_from (mark_at 76 86 (file_of Q)) hd_size lv_size n)) (sym w.counted)
      ∙ ap (passes (λ ok. ok)) (read_all lv_size lv_bytes lv_sized (λ c. Unit {0}) (mark_at 76 86) (λ c. true) lv_marked Q.counts (hd_bytes Q) (trs ++ lfs) hd_size (each_unit Q.counts) refl)
      ∙ all_true Q.counts

  tr-marks : passes (λ ok. ok) (records_from (mark_at 84 82 (file_of Q)) (trs_at (form_for Q)) tr_size (length Q.inner)) ≡ true
  unfolding trs
  tr-marks =
      ap (λ (s : List ℕ). passes (λ ok. ok) (records_from (mark_at 84 82 s) (trs_at (form_for Q)) tr_size (length Q.inner))) at_trs
      ∙ ap (passes (λ ok. ok)) (read_all tr_size tr_bytes tr-sized (λ t. Unit {0}) (mark_at 84 82) (λ t. true) tr-marked Q.inner front lfs (trs_at (form_for Q)) (each_unit Q.inner) (sym front_long))
      ∙ all_true Q.inner

  lf_marks_lem : passes (λ ok. ok) (records_from (mark_at 76 70 (file_of Q)) (lfs_at (form_for Q)) lf_size (length Q.leaves)) ≡ true
  unfolding lfs
  lf_marks_lem =
      ap (λ (s : List ℕ). passes (λ ok. ok) (records_from (mark_at 76 70 s) (lfs_at (form_for Q)) lf_size (length Q.leaves))) at_lfs
      ∙ ap (passes (λ ok. ok)) (read_all lf_size lf_bytes lf_sized (λ l. Unit {0}) (mark_at 76 70) (λ l. true) lf_marked Q.leaves (front ++ trs) [] (lfs_at (form_for Q)) (each_unit Q.leaves) (sym inner-long))
      ∙ all_true Q.leaves

  head_passes : head_ok (file_of Q) ≡ true
  unfolding head_ok file_of mark_at
  head_passes = rw (le-leb 12 (length (file_of Q)) (omega (arith, file_length)))

  version_passes : version_ok (file_of Q) ≡ true
  unfolding version_ok file_of
  version_passes = refl

  ranges_pass : ranges_ok (file_of Q) (form_for Q) ≡ true
  unfolding ranges_ok file_of
  ranges_pass = rw (le-leb 1 Q.n w.n_some, le-leb Q.n 20 w.n_few, le-leb Q.k 64 w.k_few)

  counts_pass : counts_ok b (form_for Q) ≡ true
  unfolding counts_ok
  counts_pass = rw (le-leb _ _ w.states, le-leb _ _ w.inner, le-leb _ _ w.leaves)

  length-passes : length_ok (file_of Q) (form_for Q) ≡ true
  unfolding length_ok
  length-passes = eq-eqb _ _ file_length

  marks_pass : marks_ok (file_of Q) (form_for Q) ≡ true
  unfolding marks_ok later_marks
  marks_pass =
      let s : List ℕ = file_of Q in
      let F : Form = form_for Q in
      passes_append (λ ok. ok) (lv_marks s F) (tr_marks s F ++ lf_marks s F) lv_marks_lem (passes_append (λ ok. ok) (tr_marks s F) (lf_marks s F) tr-marks lf_marks_lem)

  levels_pass : levels_ok (sum Q.counts) Q ≡ true
  unfolding levels_ok
  levels_pass = rw (ne_eqb (roots Q) 0 (λ z. omega (arith, w.rooted)), eq-eqb (sum Q.counts) (sum Q.counts) refl)

  -- its bytes pass 1 to 10 and read back as that set
  pub read_back : (source : ℕ) → judge_set b source (file_of Q) ≡ good Q
  unfolding judge_set
  read_back source =
      rw (form_read, set_read)
      (rw (head_passes, version_passes, ranges_pass, counts_pass, length-passes, marks_pass, levels_pass, w.trs, w.lfs, w.order) refl)

-- "at most 49,248 bytes"
pub at_most : (Q : QSet) → WellFormed set_bounds Q → length (file_of Q) ≤ 49248
at_most Q w = let narrow : Narrow set_bounds = record { states = omega arith; inner = omega arith; leaves = omega arith } in
    omega (arith, file_length set_bounds narrow Q w, w.n_few, w.inner, w.leaves)
