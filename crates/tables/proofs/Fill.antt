-- A loop that fills places one after the other: what it stores is right at its place, and the earlier places stay. Assumes nothing.
use mathlib.Core.Path.{◌≡◌, refl, sym, ap, ◌∙◌}
use mathlib.Core.List.{List}
use Prim.Native.Nat.{ℕ, ◌+◌, ◌*◌, ◌<◌, ◌≤◌}
use native.Mathlib.Nat.{suc-mul, mul-le-mul_right}
use native.Mathlib.Numerals.{add-one}
use native.Mathlib.Omega.{arith}
use lib.IntN.{ℤ}
use lib.ListN.{length, get_or, set}
use lib.Seq.{get_or-set_same, get_or-set_other}
use borrow.Author.Count.{below_more}
use Rattle.stored.specs.Form.{tr_size, lf_size, tr_at, lf_at}
use Rattle.records.specs.declared.Lf.{Lf}
use Rattle.records.specs.declared.Tr.{Tr}
use Rattle.records.specs.Read.{tr_of, amp_of, lf_read, lf_of}
use Rattle.records.proofs.ReadLaws.{lf_read_lem}
use Rattle.tables.specs.Table.{tr_row, leaf_row, row_set, rows_below}
use Rattle.tables.specs.States.{state_row, Rising}
use Rattle.tables.specs.Unpack.{leaf_read, taken, Put, Filled, Tabled, Leaved, Begun}
use Rattle.tables.proofs.Leaves.{set_other, set_here}
use Rattle.tables.proofs.Beginnings.{below-are, none-later}

-- ---- rows
pub filled_more : {read : ℕ → Tr → Type 0} {from i : ℕ} {rows masks rows₁ masks₁ rows₂ masks₂ : List ℕ} {t : Tr}
    → Filled read from i rows masks rows₁ masks₁ → Put rows₁ masks₁ rows₂ masks₂ (from + i) (tr_of t) → read i t
    → Filled read from (i + 1) rows masks rows₂ masks₂
filled_more {read} {from} {i} {rows₂ = rows₂} {masks₂ = masks₂} {t} f p e = record {
  each = below_more (λ (j : ℕ). (u : Tr) × read j u × (tr_row rows₂ masks₂ (from + j) ≡ tr_of u)) i
      (λ j h. let g = f.each j h in (g.0, g.1, p.others _ (λ z. omega arith) ∙ g.2)) (t, e, p.here);
  before = λ j h. p.others j (λ z. omega arith) ∙ f.before j h;
}

-- the TR rows, and after them the LF rows, which leave them as they are
pub tabled : {file : List ℕ} {trs lfs k inner leaves : ℕ} {rows masks rows₁ masks₁ rows₂ masks₂ : List ℕ} {p q : ℕ → Tr → Type 0}
    → ((j : ℕ) (t : Tr) → p j t → tr_of t ≡ tr_at file (trs + j * tr_size)) → ((j : ℕ) (t : Tr) → q j t → tr_of t ≡ leaf_read k file (lfs + j * lf_size) j)
    → Filled p 0 inner rows masks rows₁ masks₁ → Filled q inner leaves rows₁ masks₁ rows₂ masks₂
    → Tabled file trs lfs k inner leaves rows₂ masks₂
tabled {rows₁ = rows₁} {masks₁ = masks₁} a b f g = record {
  inner_rows = λ i lt. let e : i ≡ 0 + i = omega arith in let h = f.each i lt in g.before i lt ∙ ap (tr_row rows₁ masks₁) e ∙ h.2 ∙ a i h.0 h.1;
  leaf_rows = λ i lt. let h = g.each i lt in h.2 ∙ b i h.0 h.1;
}

-- ---- coefficients
pub leaved_more : {file : List ℕ} {start i : ℕ} (coefs : List ℤ) {l : Lf} → i * 4 + 4 ≤ length coefs
    → Leaved file start i coefs → l ≡ lf_read file (start + i * lf_size) → Leaved file start (i + 1) (row_set coefs i (amp_of l))
leaved_more {file} {start} {i} coefs {l} room f e = record {
  each = λ j k. below_more (λ (q : ℕ). leaf_row (row_set coefs i (amp_of l)) q k ≡ taken (lf_at k file (start + q * lf_size))) i
      (λ q h. set_other coefs i (amp_of l) q k (λ z. omega arith) ∙ f.each q k h)
      (set_here coefs i (amp_of l) k room ∙ ap (λ (x : Lf). taken (lf_of k x)) e ∙ ap taken (lf_read_lem k file (start + i * lf_size))) j;
}

-- ---- single numbers
pub stored_more : {P : ℕ → ℕ} (l : List ℕ) (i x : ℕ) → i < length l → ((j : ℕ) → j < i → get_or l j 0 ≡ P j) → x ≡ P i → (j : ℕ) → j < i + 1 → get_or (set l i x) j 0 ≡ P j
stored_more l i x room f e = below_more _ i (λ j h. get_or-set_other l i j x 0 (λ z. omega arith) ∙ f j h) (get_or-set_same l i x 0 room ∙ e)

-- ---- beginnings
-- the row where state s begins is the first one whose state is not smaller
pub begun_more : {rows first : List ℕ} {total s i : ℕ} → Rising (state_row rows) total → i ≤ total → ((j : ℕ) → j < i → state_row rows j < s) → (i < total → s ≤ state_row rows i)
    → Begun rows total s first → s < length first → Begun rows total (s + 1) (set first s i)
begun_more {rows} {first} {total} {s} {i} sorted within low here b room =
    let e : rows_below rows s total ≡ i = below-are rows s total i within low (none-later rows s total i sorted here) in
    record { each = stored_more first s i room b.each (sym e) }
