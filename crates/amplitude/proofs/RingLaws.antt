-- Laws of exact amplitudes: linear identities, each closed by sorting its terms. Assumes nothing.
use mathlib.Core.Path.{◌≡◌, refl, sym, ap, ◌∙◌}
use Prim.Native.Nat.{ℕ, zero, suc, ◌+◌}
use native.Mathlib.Nat.{zero-add, suc-add}
use lib.IntN.{ℤ, neg_ℤ, ◌+ℤ◌, +ℤ_assoc, +ℤ_comm, +ℤ_idl, +ℤ_idr, +ℤ_invr, +ℤ_invl, neg_ℤ-+ℤ, neg_ℤ-neg_ℤ}
use Rattle.amplitude.specs.Amp.{Amp, amp, timesω, times√2, ◌⊕◌, ◌⊖◌, ω^, √2^, 0A}

+ℤ-left_comm : (x y z : ℤ) → x +ℤ (y +ℤ z) ≡ y +ℤ (x +ℤ z)
+ℤ-left_comm x y z = sym (+ℤ_assoc x y z) ∙ ap (λ (w : ℤ). w +ℤ z) (+ℤ_comm x y) ∙ +ℤ_assoc y x z

cancel_r : (x y : ℤ) → x +ℤ (neg_ℤ x +ℤ y) ≡ y
cancel_r x y = sym (+ℤ_assoc x (neg_ℤ x) y) ∙ ap (λ (w : ℤ). w +ℤ y) (+ℤ_invr x) ∙ +ℤ_idl y

cancel_l : (x y : ℤ) → neg_ℤ x +ℤ (x +ℤ y) ≡ y
cancel_l x y = sym (+ℤ_assoc (neg_ℤ x) x y) ∙ ap (λ (w : ℤ). w +ℤ y) (+ℤ_invl x) ∙ +ℤ_idl y

cancel_over : (x y : ℤ) → x +ℤ (y +ℤ neg_ℤ x) ≡ y
cancel_over x y = ap (λ (w : ℤ). x +ℤ w) (+ℤ_comm y (neg_ℤ x)) ∙ cancel_r x y

cancel_far : (x y z : ℤ) → x +ℤ (y +ℤ (z +ℤ neg_ℤ x)) ≡ y +ℤ z
cancel_far x y z = ap (λ (w : ℤ). x +ℤ w) (sym (+ℤ_assoc y z (neg_ℤ x))) ∙ cancel_over x (y +ℤ z)

-- both sides of a linear identity sorted alike
ruleset linear = (cancel_over, cancel_far, +ℤ_assoc, +ℤ_comm, +ℤ-left_comm, neg_ℤ-+ℤ, neg_ℤ-neg_ℤ, cancel_r, cancel_l, +ℤ_invr, +ℤ_invl, +ℤ_idl, +ℤ_idr)

-- ---- sums
pub ⊕-comm : (x y : Amp) → x ⊕ y ≡ y ⊕ x
⊕-comm (amp a b c d) (amp a' b' c' d') = simp linear

pub ⊕-assoc : (x y z : Amp) → (x ⊕ y) ⊕ z ≡ x ⊕ (y ⊕ z)
⊕-assoc (amp a b c d) (amp a' b' c' d') (amp e f g h) = simp linear

pub 0⊕ : (x : Amp) → 0A ⊕ x ≡ x
0⊕ (amp a b c d) = simp +ℤ_idl

pub ⊕0 : (x : Amp) → x ⊕ 0A ≡ x
⊕0 (amp a b c d) = simp +ℤ_idr

-- ---- ω: one law over j for each fact
-- "ω⁴ = −1": A − B is A + ω⁴B, and ω⁸ = 1
pub ⊖-is : (x y : Amp) → x ⊖ y ≡ x ⊕ ω^ 4 y
⊖-is (amp a b c d) (amp a' b' c' d') = refl

pub ω^8 : (x : Amp) → ω^ 8 x ≡ x
ω^8 (amp a b c d) = simp linear

pub ω-add : (x y : Amp) → timesω (x ⊕ y) ≡ timesω x ⊕ timesω y
ω-add (amp a b c d) (amp a' b' c' d') = simp linear

pub ω^-add : (j : ℕ) (x y : Amp) → ω^ j (x ⊕ y) ≡ ω^ j x ⊕ ω^ j y
ω^-add zero x y = refl
ω^-add (suc j) x y = ap timesω (ω^-add j x y) ∙ ω-add (ω^ j x) (ω^ j y)

pub ω^-plus : (i j : ℕ) (x : Amp) → ω^ (i + j) x ≡ ω^ i (ω^ j x)
ω^-plus zero j x = ap (λ (m : ℕ). ω^ m x) (zero-add j)
ω^-plus (suc i) j x = ap (λ (m : ℕ). ω^ m x) (suc-add i j) ∙ ap timesω (ω^-plus i j x)

-- ---- √2
-- √2 is ω − ω³, the textbook value: document 01's rule is the right one
pub √2-is : (x : Amp) → times√2 x ≡ ω^ 1 x ⊖ ω^ 3 x
√2-is (amp a b c d) = simp linear

-- "Twice is doubling."
pub √2_twice : (x : Amp) → times√2 (times√2 x) ≡ x ⊕ x
√2_twice (amp a b c d) = simp linear

pub √2-add : (x y : Amp) → times√2 (x ⊕ y) ≡ times√2 x ⊕ times√2 y
√2-add (amp a b c d) (amp a' b' c' d') = simp linear

pub √2-ω : (x : Amp) → times√2 (timesω x) ≡ timesω (times√2 x)
√2-ω (amp a b c d) = simp linear

pub √2-ω^ : (j : ℕ) (x : Amp) → times√2 (ω^ j x) ≡ ω^ j (times√2 x)
√2-ω^ zero x = refl
√2-ω^ (suc j) x = √2-ω (ω^ j x) ∙ ap timesω (√2-ω^ j x)

pub √2^-ω^ : (i j : ℕ) (x : Amp) → √2^ i (ω^ j x) ≡ ω^ j (√2^ i x)
√2^-ω^ zero j x = refl
√2^-ω^ (suc i) j x = ap times√2 (√2^-ω^ i j x) ∙ √2-ω^ j (√2^ i x)

pub √2^-plus : (i j : ℕ) (x : Amp) → √2^ (i + j) x ≡ √2^ i (√2^ j x)
√2^-plus zero j x = ap (λ (m : ℕ). √2^ m x) (zero-add j)
√2^-plus (suc i) j x = ap (λ (m : ℕ). √2^ m x) (suc-add i j) ∙ ap times√2 (√2^-plus i j x)

pub √2^-add : (j : ℕ) (x y : Amp) → √2^ j (x ⊕ y) ≡ √2^ j x ⊕ √2^ j y
√2^-add zero x y = refl
√2^-add (suc j) x y = ap times√2 (√2^-add j x y) ∙ √2-add (√2^ j x) (√2^ j y)

pub √2^-zero : (j : ℕ) → √2^ j 0A ≡ 0A
√2^-zero zero = refl
√2^-zero (suc j) = ap times√2 (√2^-zero j)
