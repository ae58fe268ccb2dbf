-- The rest of a slice lent on: what the callee is lent, and what stands in the whole once it has come back. Rows before the rest are as they were,
-- and those of the rest follow them. Assumes nothing.
use mathlib.Core.Path.{◌≡◌, sym, ap, ap₂, ◌∙◌}
use mathlib.Core.List.{List, ◌++◌, append-nil}
use Prim.Native.Nat.{ℕ, ◌+◌, ◌-◌, ◌*◌, ◌<◌, ◌≤◌}
use native.Mathlib.Omega.{arith}
use lib.IntN.{ℤ}
use lib.ListN.{length, get_or, take, drop, length-append, length-drop, get_or-append}
use lib.Seq.{take_all, drop-length, length-take-le, get_or-append-add, get_or-take}
use borrow.Rule.Slice.PartMut.{put_mid, Post-is}
use Rattle.automata.specs.Sets.{TR}
use Rattle.tables.specs.Table.{row_width, tr_row, lf_row, tr_rows, lf_rows}
use Rattle.tables.proofs.Listed.{same-records, records_append}

module _ {A : Type 0} where
  pub tail_lent : (l : List A) (k : ℕ) → take (length l - k) (drop k l) ≡ drop k l
  tail_lent l k = take_all (length l - k) (drop k l) (omega (arith, length-drop k l))

  pub tail_long : (l : List A) (k : ℕ) → length (take (length l - k) (drop k l)) ≡ length l - k
  tail_long l k = ap length (tail_lent l k) ∙ length-drop k l

  module _ (l ys : List A) (k : ℕ) (h : k ≤ length l) where
    pub tail_back : put_mid k (length l - k) l ys ≡ take k l ++ ys
    tail_back = rw (Post-is k (length l) l h, drop-length l, append-nil ys)

    pub before_at : (j : ℕ) (d : A) → j < k → get_or (put_mid k (length l - k) l ys) j d ≡ get_or l j d
    before_at j d lt =
        ap (λ (m : List A). get_or m j d) tail_back ∙ get_or-append (take k l) ys d j (omega (arith, length-take-le k l h)) ∙ get_or-take k l j d lt

    pub after-at : (j : ℕ) (d : A) → get_or (put_mid k (length l - k) l ys) (k + j) d ≡ get_or ys j d
    after-at j d =
        ap (λ (m : List A). get_or m (k + j) d) tail_back ∙ ap (λ (n : ℕ). get_or (take k l ++ ys) (n + j) d) (sym (length-take-le k l h)) ∙ get_or-append-add (take k l) ys j d

    pub back_long : length ys ≡ length l - k → length (put_mid k (length l - k) l ys) ≡ length l
    back_long e = ap length tail_back ∙ omega (arith, length-append (take k l) ys, length-take-le k l h)

-- ---- `a` rows, and the rest
module _ (rows rest masks mrest : List ℕ) (a k : ℕ) (wide : k ≡ a * row_width) (h : k ≤ length rows) (m : a ≤ length masks) where
  abbrev whole : List ℕ
  whole = put_mid k (length rows - k) rows rest

  abbrev mwhole : List ℕ
  mwhole = put_mid a (length masks - a) masks mrest

  row_before : (i j : ℕ) → i < a → j < row_width → get_or whole (i * row_width + j) 0 ≡ get_or rows (i * row_width + j) 0
  row_before i j lt jl = before_at rows rest k h (i * row_width + j) 0 (omega arith)

  pub row-after : (i j : ℕ) → get_or whole ((a + i) * row_width + j) 0 ≡ get_or rest (i * row_width + j) 0
  row-after i j = let e : (a + i) * row_width + j ≡ k + (i * row_width + j) = omega arith in ap (λ (n : ℕ). get_or whole n 0) e ∙ after-at rows rest k h (i * row_width + j) 0

  tr-before : (i : ℕ) → i < a → tr_row whole mwhole i ≡ tr_row rows masks i
  unfolding tr_row
  tr-before i lt =
      let z : i * row_width ≡ i * row_width + 0 = omega arith in
      let s : get_or whole (i * row_width) 0 ≡ get_or rows (i * row_width) 0 = before_at rows rest k h (i * row_width) 0 (omega arith) in
      rw (s, before_at masks mrest a m i 0 lt, row_before i 1 lt (omega arith), row_before i 2 lt (omega arith))

  tr-after : (i : ℕ) → tr_row whole mwhole (a + i) ≡ tr_row rest mrest i
  unfolding tr_row
  tr-after i =
      let s : get_or whole ((a + i) * row_width) 0 ≡ get_or rest (i * row_width) 0 =
      (let e : (a + i) * row_width ≡ k + i * row_width = omega arith in ap (λ (n : ℕ). get_or whole n 0) e ∙ after-at rows rest k h (i * row_width) 0) in
      rw (s, after-at masks mrest a m i 0, row-after i 1, row-after i 2)

  lf_after : (coefs : List ℤ) (i : ℕ) → lf_row whole mwhole coefs (a + i) ≡ lf_row rest mrest coefs i
  unfolding lf_row
  lf_after coefs i =
      let s : get_or whole ((a + i) * row_width) 0 ≡ get_or rest (i * row_width) 0 =
      (let e : (a + i) * row_width ≡ k + i * row_width = omega arith in ap (λ (n : ℕ). get_or whole n 0) e ∙ after-at rows rest k h (i * row_width) 0) in
      rw (s, after-at masks mrest a m i 0, row-after i 1, row-after i 2)

  pub trs_on : (b : ℕ) → tr_rows whole mwhole 0 (a + b) ≡ tr_rows rows masks 0 a ++ tr_rows rest mrest 0 b
  unfolding tr_rows
  trs_on b =
      sym (records_append (tr_row whole mwhole) 0 b a)
      ∙ ap₂ (λ (ts us : List TR). ts ++ us) (same-records (tr_row whole mwhole) (tr_row rows masks) 0 0 1 1 a (λ i lt. let e : 0 + i * 1 ≡ i = omega arith in rw e (tr-before i lt)))
      (same-records (tr_row whole mwhole) (tr_row rest mrest) (0 + a) 0 1 1 b (λ i lt. let e : 0 + i * 1 ≡ i = omega arith in let f : 0 + a + i * 1 ≡ a + i = omega arith in rw (e, f) (tr-after i)))

  pub lfs_on : (coefs : List ℤ) (b c : ℕ) → lf_rows whole mwhole coefs (a + b) c ≡ lf_rows rest mrest coefs b c
  unfolding lf_rows
  lfs_on coefs b c =
      same-records (lf_row whole mwhole coefs) (lf_row rest mrest coefs) (a + b) b 1 1 c
      (λ i lt. let e : a + b + i * 1 ≡ a + (b + i * 1) = omega arith in rw e (lf_after coefs (b + i * 1)))
