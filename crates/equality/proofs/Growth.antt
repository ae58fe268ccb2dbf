-- Times √2 at most doubles the size of a coefficient, and twice √2 is doubling: d steps double the bound (d + 1) / 2 times. Assumes nothing.
use mathlib.Core.Path.{◌≡◌, ap}
use Prim.Native.Nat.{ℕ, zero, suc, ◌+◌, ◌*◌, ◌/◌, ◌^◌, ◌≤◌}
use native.Mathlib.Nat.{pow-suc, pow-le-pow_right, mul-le-mul_left}
use native.Mathlib.Omega.{arith}
use lib.IntN.{neg_ℤ}
use Rattle.amplitude.specs.Amp.{Amp, amp, times√2, ◌⊕◌, √2^, most}
use Rattle.amplitude.specs.Leaf.{k_most}
use Rattle.amplitude.proofs.RingLaws.{√2_twice}
use Rattle.leafrows.specs.Value.{Within}
use Rattle.leafrows.proofs.Signed.{nat_abs_neg, nat_abs-sum}
use Rattle.equality.specs.Wide.{wide_most}

within_more : (m n : ℕ) (x : Amp) → m ≤ n → Within m x → Within n x
within_more m n (amp a b c d) h (p, q, r, s) = (omega arith, omega arith, omega arith, omega arith)

within-double : (m : ℕ) (x : Amp) → Within m x → Within (m + m) (x ⊕ x)
within-double m (amp a b c d) (p, q, r, s) =
    (omega (arith, nat_abs-sum a a), omega (arith, nat_abs-sum b b), omega (arith, nat_abs-sum c c), omega (arith, nat_abs-sum d d))

within-√2 : (m : ℕ) (x : Amp) → Within m x → Within (m + m) (times√2 x)
within-√2 m (amp a b c d) (p, q, r, s) = (
  omega (arith, nat_abs-sum b (neg_ℤ d), nat_abs_neg d),
  omega (arith, nat_abs-sum a c),
  omega (arith, nat_abs-sum b d),
  omega (arith, nat_abs-sum c (neg_ℤ a), nat_abs_neg a),
)

-- two steps more are a doubling
pub two_steps : (d : ℕ) (x : Amp) → √2^ (suc (suc d)) x ≡ √2^ d x ⊕ √2^ d x
two_steps d x = √2_twice (√2^ d x)

-- as many steps as one likes to write
pub as-often : (x : Amp) (m n : ℕ) → m ≡ n → √2^ m x ≡ √2^ n x
as-often x m n e = ap (λ (d : ℕ). √2^ d x) e

-- the bound after d steps
abbrev bound : ℕ → ℕ
bound d = most * 2 ^ ((d + 1) / 2)

bound_twice : (d : ℕ) → bound d + bound d ≡ bound (suc (suc d))
bound_twice d =
    let e : (suc (suc d) + 1) / 2 ≡ suc ((d + 1) / 2) = omega arith in
    rw (e, pow-suc 2 ((d + 1) / 2)) (omega arith)

grown : (d : ℕ) (x : Amp) → Within most x → Within (bound d) (√2^ d x)
grown zero x h = h
grown (suc zero) x h = within-√2 most x h
grown (suc (suc d)) x h = rw (two_steps d x, ← bound_twice d) (within-double (bound d) (√2^ d x) (grown d x h))

pub within-√2^ : (d : ℕ) (x : Amp) → d ≤ k_most → Within most x → Within wide_most (√2^ d x)
within-√2^ d x h p =
    let e : (d + 1) / 2 ≤ 32 = omega arith in
    within_more (bound d) wide_most (√2^ d x) (mul-le-mul_left most (pow-le-pow_right (omega arith) e)) (grown d x p)
