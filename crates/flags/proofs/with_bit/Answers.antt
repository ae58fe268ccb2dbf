-- 2^b for b below 32 fits 32 bits. Assumes nothing.
use mathlib.Core.Path.{ap, ◌∙◌}
use Prim.Native.Nat.{ℕ, ◌^◌, ◌<◌, ◌≤◌, ◌%◌}
use native.Mathlib.Nat.{one-mul, mod-eq_of_lt, pow-le-pow_right}
use native.Mathlib.Omega.{arith}
use lib.Bits.{bit_or}
use Rattle.flags.proofs.with_bit.Goals as goal

pub returns : goal.returns
returns c =
    let b : ℕ = c.args.b in
    let low : b ≤ 31 = omega arith in
    let most : 2 ^ b ≤ 2 ^ 31 = pow-le-pow_right (omega arith) low in
    let small : 2 ^ b < 4294967296 = omega arith in
    ap (bit_or c.args.word) (ap (λ (x : ℕ). x % 4294967296) (one-mul (2 ^ b)) ∙ mod-eq_of_lt small)
