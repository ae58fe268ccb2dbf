-- A row of coefficients that is set is read back, and no other row changes, since rows share no place. Assumes nothing.
use mathlib.Core.Path.{◌≡◌, ◌∙◌}
use mathlib.Core.List.{List}
use Prim.Native.Nat.{ℕ, ◌+◌, ◌*◌, ◌/◌, ◌<◌, ◌≤◌}
use native.Mathlib.Omega.{arith}
use lib.IntN.{ℤ, pos}
use lib.ListN.{length, get_or, set, length-set}
use lib.Seq.{get_or-set_same, get_or-set_other}
use Rattle.amplitude.specs.Amp.{Amp, amp}
use Rattle.amplitude.specs.Leaf.{leaf}
use Rattle.tables.specs.Table.{leaf_row, row_set}

pub set-length : (coefs : List ℤ) (j : ℕ) (x : Amp) → length (row_set coefs j x) ≡ length coefs
unfolding row_set
set-length coefs j (amp a b c d) = simp length-set

-- a place outside of the row is as it was
pub set-outside : (coefs : List ℤ) (j : ℕ) (x : Amp) (i : ℕ) → (i / 4 ≡ j → ⊥) → get_or (row_set coefs j x) i (pos 0) ≡ get_or coefs i (pos 0)
unfolding row_set
set-outside coefs j (amp a b c d) i h =
    let h₀ : i ≡ j * 4 → ⊥ = λ e. h (omega arith) in
    let h₁ : i ≡ j * 4 + 1 → ⊥ = λ e. h (omega arith) in
    let h₂ : i ≡ j * 4 + 2 → ⊥ = λ e. h (omega arith) in
    let h₃ : i ≡ j * 4 + 3 → ⊥ = λ e. h (omega arith) in
    rw (get_or-set_other, get_or-set_other, get_or-set_other, get_or-set_other)

pub set_other : (coefs : List ℤ) (j : ℕ) (x : Amp) (i k : ℕ) → (i ≡ j → ⊥) → leaf_row (row_set coefs j x) i k ≡ leaf_row coefs i k
unfolding leaf_row
set_other coefs j x i k h =
    rw (set-outside coefs j x (i * 4) (λ e. h (omega arith)), set-outside coefs j x (i * 4 + 1) (λ e. h (omega arith)), set-outside coefs j x (i * 4 + 2) (λ e. h (omega arith)), set-outside coefs j x (i * 4 + 3) (λ e. h (omega arith)))

-- a later store is at another place
earlier : (l : List ℤ) (p q : ℕ) (v : ℤ) → q < p → get_or (set l p v) q (pos 0) ≡ get_or l q (pos 0)
earlier l p q v h = get_or-set_other l p q v (pos 0) (λ e. omega arith)

pub set_here : (coefs : List ℤ) (j : ℕ) (x : Amp) (k : ℕ) → j * 4 + 4 ≤ length coefs → leaf_row (row_set coefs j x) j k ≡ leaf k x
unfolding row_set leaf_row
set_here coefs j (amp a b c d) k h =
    let p : ℕ = j * 4 in
    let l₁ : List ℤ = set coefs p a in
    let l₂ : List ℤ = set l₁ (p + 1) b in
    let l₃ : List ℤ = set l₂ (p + 2) c in
    let e₀ : get_or (set l₃ (p + 3) d) p (pos 0) ≡ a =
    earlier l₃ (p + 3) p d (omega arith) ∙ earlier l₂ (p + 2) p c (omega arith) ∙ earlier l₁ (p + 1) p b (omega arith) ∙ get_or-set_same coefs p a (pos 0) (omega arith) in
    let e₁ : get_or (set l₃ (p + 3) d) (p + 1) (pos 0) ≡ b =
    earlier l₃ (p + 3) (p + 1) d (omega arith) ∙ earlier l₂ (p + 2) (p + 1) c (omega arith) ∙ get_or-set_same l₁ (p + 1) b (pos 0) (simp length-set (omega arith)) in
    let e₂ : get_or (set l₃ (p + 3) d) (p + 2) (pos 0) ≡ c =
    earlier l₃ (p + 3) (p + 2) d (omega arith) ∙ get_or-set_same l₂ (p + 2) c (pos 0) (simp length-set (omega arith)) in
    let e₃ : get_or (set l₃ (p + 3) d) (p + 3) (pos 0) ≡ d = get_or-set_same l₃ (p + 3) d (pos 0) (simp length-set (omega arith)) in
    rw (e₀, e₁, e₂, e₃)
