-- A row that is written is read back, and the other rows stay, because rows share no place. Assumes nothing.
use mathlib.Core.Path.{◌≡◌, refl}
use mathlib.Core.List.{List, [], ◌∷◌}
use Prim.Native.Nat.{ℕ, ◌+◌, ◌*◌, ◌<◌, ◌≤◌}
use native.Mathlib.Omega.{arith}
use lib.ListN.{length, get_or, set}
use lib.Seq.{get_or-set_same, get_or-set_other}
use Rattle.automata.specs.Sets.{tr}
use Rattle.tables.specs.Table.{row_width, tr_row}
use Rattle.tables.specs.Unpack.{Put}
use Rattle.tables.proofs.Stores.{place, stores, block_in, block_out}

module _ (rows masks : List ℕ) (i s m l r : ℕ) (roomy : (i + 1) * row_width ≤ length rows) (room : i + 1 ≤ length masks) where
  in_row : (j : ℕ) → j < row_width → get_or (stores rows (i * row_width) 0 (s ∷ l ∷ r ∷ [])) (place (i * row_width) j) 0 ≡ get_or (s ∷ l ∷ r ∷ []) j 0
  in_row j h = block_in (s ∷ l ∷ r ∷ []) rows i 0 row_width refl (omega arith) j h

  out_row : (q j : ℕ) → (q ≡ i → ⊥) → j < row_width → get_or (stores rows (i * row_width) 0 (s ∷ l ∷ r ∷ [])) (place (q * row_width) j) 0 ≡ get_or rows (place (q * row_width) j) 0
  out_row q j ne h = block_out (s ∷ l ∷ r ∷ []) rows i 0 row_width refl q j (λ k lt e. omega (arith, ne))

  pub put-row : Put rows masks (stores rows (i * row_width) 0 (s ∷ l ∷ r ∷ [])) (set masks i m) i (tr s m l r)
  unfolding tr_row
  put-row = record {
    here =
        let e = in_row 0 (omega arith) in
        let e₁ = in_row 1 (omega arith) in
        let e₂ = in_row 2 (omega arith) in
        let mask = get_or-set_same masks i m 0 (omega arith) in
        cc;
    others = λ j ne.
        let e = out_row j 0 ne (omega arith) in
        let e₁ = out_row j 1 ne (omega arith) in
        let e₂ = out_row j 2 ne (omega arith) in
        let mask = get_or-set_other masks i j m 0 ne in
        cc;
  }
