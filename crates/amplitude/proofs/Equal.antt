-- The test of equality is equality: √2 is cancelled because twice √2 is doubling, so two leaves are equal exactly if they are the same four
-- numbers at any k that is large enough. Hence equality is an equivalence, and zero is equal to zero at any k. Assumes nothing.
use mathlib.Core.Path.{◌≡◌, refl, sym, ap, ◌∙◌}
use mathlib.Core.Bool.{Bool, true, false, ◌&&◌, false≢true}
use Prim.Native.Nat.{ℕ, zero, suc, ◌+◌, ◌-◌, ◌≤◌, max}
use native.Mathlib.Omega.{arith}
use lib.IntN.{ℤ, pos, negsuc, nat_abs, ◌+ℤ◌, pos-ne-negsuc}
use borrow.Author.Tests.{eqb-true, eq-eqb}
use Rattle.amplitude.specs.Amp.{Amp, amp, times√2, ◌⊕◌, √2^, 0A, same_z, same_a}
use Rattle.amplitude.specs.Leaf.{Leaf, leaf, k_of, same}
use Rattle.amplitude.proofs.RingLaws.{√2_twice, √2^-plus, √2^-zero}

-- ---- √2 is cancelled
double_inj : (x y : ℤ) → x +ℤ x ≡ y +ℤ y → x ≡ y
double_inj (pos a) (pos b) e = ap pos (omega (arith, ap nat_abs e))
double_inj (pos a) (negsuc b) e = absurd (pos-ne-negsuc (a + a) (suc (b + b)) e)
double_inj (negsuc a) (pos b) e = absurd (pos-ne-negsuc (b + b) (suc (a + a)) (sym e))
double_inj (negsuc a) (negsuc b) e = ap negsuc (omega (arith, ap nat_abs e))

double-inj_a : (x y : Amp) → x ⊕ x ≡ y ⊕ y → x ≡ y
double-inj_a (amp a b c d) (amp a' b' c' d') e =
    let e₁ : a ≡ a' = double_inj a a' (cc e) in
    let e₂ : b ≡ b' = double_inj b b' (cc e) in
    let e₃ : c ≡ c' = double_inj c c' (cc e) in
    let e₄ : d ≡ d' = double_inj d d' (cc e) in
    cc

√2_inj : (x y : Amp) → times√2 x ≡ times√2 y → x ≡ y
√2_inj x y e = double-inj_a x y (sym (√2_twice x) ∙ ap times√2 e ∙ √2_twice y)

pub √2^_inj : (j : ℕ) (x y : Amp) → √2^ j x ≡ √2^ j y → x ≡ y
√2^_inj zero x y e = e
√2^_inj (suc j) x y e = √2^_inj j x y (√2_inj (√2^ j x) (√2^ j y) e)

-- ---- the tests
same_z-sound : (x y : ℤ) → same_z x y ≡ true → x ≡ y
same_z-sound (pos a) (pos b) e = ap pos (eqb-true a b e)
same_z-sound (pos a) (negsuc b) e = absurd (false≢true e)
same_z-sound (negsuc a) (pos b) e = absurd (false≢true e)
same_z-sound (negsuc a) (negsuc b) e = ap negsuc (eqb-true a b e)

same_z-refl : (x : ℤ) → same_z x x ≡ true
same_z-refl (pos a) = eq-eqb a a refl
same_z-refl (negsuc a) = eq-eqb a a refl

pub both : (a b : Bool) → a && b ≡ true → (a ≡ true) × (b ≡ true)
both true b e = (refl, e)
both false b e = absurd (false≢true e)

pub same_a-sound : (x y : Amp) → same_a x y ≡ true → x ≡ y
same_a-sound (amp a b c d) (amp a' b' c' d') e =
    let p = both (same_z a a') _ e in
    let q = both (same_z b b') _ p.1 in
    let r = both (same_z c c') _ q.1 in
    let e₁ : a ≡ a' = same_z-sound a a' p.0 in
    let e₂ : b ≡ b' = same_z-sound b b' q.0 in
    let e₃ : c ≡ c' = same_z-sound c c' r.0 in
    let e₄ : d ≡ d' = same_z-sound d d' r.1 in
    cc

pub same_a-refl : (x : Amp) → same_a x x ≡ true
same_a-refl (amp a b c d) = simp same_z-refl

-- ---- equal leaves: at a common k the same four numbers
-- the four numbers of a leaf raised to m
abbrev pub raised_to : ℕ → Leaf → Amp
raised_to m (leaf k x) = √2^ (m - k) x

-- from the greater of both k to any k above, and back
raised_on : (m k l : ℕ) (x : Amp) → k ≤ m → l ≤ m → √2^ (m - k) x ≡ √2^ (m - max k l) (√2^ (l - k) x)
raised_on m k l x h h' = let e : m - k ≡ (m - max k l) + (l - k) = omega arith in ap (λ (d : ℕ). √2^ d x) e ∙ √2^-plus (m - max k l) (l - k) x

raised_on' : (m k l : ℕ) (x : Amp) → k ≤ m → l ≤ m → √2^ (m - l) x ≡ √2^ (m - max k l) (√2^ (k - l) x)
raised_on' m k l x h h' = let e : m - l ≡ (m - max k l) + (k - l) = omega arith in ap (λ (d : ℕ). √2^ d x) e ∙ √2^-plus (m - max k l) (k - l) x

pub same_raised : (m : ℕ) (x y : Leaf) → k_of x ≤ m → k_of y ≤ m → same x y ≡ true → raised_to m x ≡ raised_to m y
same_raised m (leaf k x) (leaf l y) h h' e =
    raised_on m k l x h h' ∙ ap (√2^ (m - max k l)) (same_a-sound (√2^ (l - k) x) (√2^ (k - l) y) e) ∙ sym (raised_on' m k l y h h')

pub raised_same : (m : ℕ) (x y : Leaf) → k_of x ≤ m → k_of y ≤ m → raised_to m x ≡ raised_to m y → same x y ≡ true
raised_same m (leaf k x) (leaf l y) h h' e =
    let p : √2^ (l - k) x ≡ √2^ (k - l) y = √2^_inj (m - max k l) (√2^ (l - k) x) (√2^ (k - l) y) (sym (raised_on m k l x h h') ∙ e ∙ raised_on' m k l y h h') in
    ap (λ (z : Amp). same_a z (√2^ (k - l) y)) p ∙ same_a-refl (√2^ (k - l) y)

pub same_refl : (x : Leaf) → same x x ≡ true
same_refl (leaf k x) = raised_same k (leaf k x) (leaf k x) (omega arith) (omega arith) refl

pub same-sym : (x y : Leaf) → same x y ≡ true → same y x ≡ true
same-sym (leaf k x) (leaf l y) e =
    raised_same (k + l) (leaf l y) (leaf k x) (omega arith) (omega arith) (sym (same_raised (k + l) (leaf k x) (leaf l y) (omega arith) (omega arith) e))

pub same_trans : (x y z : Leaf) → same x y ≡ true → same y z ≡ true → same x z ≡ true
same_trans (leaf k x) (leaf l y) (leaf m z) e e' =
    raised_same (k + l + m) (leaf k x) (leaf m z) (omega arith) (omega arith)
    (same_raised (k + l + m) (leaf k x) (leaf l y) (omega arith) (omega arith) e ∙ same_raised (k + l + m) (leaf l y) (leaf m z) (omega arith) (omega arith) e')

-- "Zero is equal to zero at any k."
pub zero_same : (k l : ℕ) → same (leaf k 0A) (leaf l 0A) ≡ true
zero_same k l = ap (λ (x : Amp). same_a x (√2^ (k - l) 0A)) (√2^-zero (l - k)) ∙ ap (λ (x : Amp). same_a 0A x) (√2^-zero (k - l))
