-- A signed number is read back as it was written, since it fits; and a sum or a negative is small enough to fit. Assumes nothing.
use mathlib.Core.Path.{◌≡◌}
use mathlib.Core.Bool.{Bool, true, false, cond}
use Prim.Native.Nat.{ℕ, zero, suc, ◌+◌, ◌≤◌, ◌<◌, ◌^◌}
use native.Mathlib.Omega.{arith}
use lib.Dec.{ltb}
use lib.IntN.{ℤ, pos, negsuc, nat_abs, neg_ℤ, ◌+ℤ◌}
use lib.Signed.{mag}
use mir.Syntax.{Width, w32}
use mir.Val.{SFits, hbits, to_z, of_z}
use mir.Facts.{to_z-of_z}
use Rattle.amplitude.specs.Amp.{amp}

-- ---- sizes
mag-nat_abs : (z : ℤ) → mag z ≤ nat_abs z
mag-nat_abs (pos n) = omega arith
mag-nat_abs (negsuc n) = omega arith

pub nat_abs_neg : (z : ℤ) → nat_abs (neg_ℤ z) ≡ nat_abs z
nat_abs_neg (pos zero) = omega arith
nat_abs_neg (pos (suc n)) = omega arith
nat_abs_neg (negsuc n) = omega arith

either : (b : Bool) (m n k : ℕ) → suc m ≤ k → n ≤ k → nat_abs (cond b (negsuc m) (pos n)) ≤ k
either true m n k p q = p
either false m n k p q = q

pub nat_abs-sum : (x y : ℤ) → nat_abs (x +ℤ y) ≤ nat_abs x + nat_abs y
nat_abs-sum (pos a) (pos b) = omega arith
nat_abs-sum (pos a) (negsuc b) = either (ltb a (suc b)) _ _ _ (omega arith) (omega arith)
nat_abs-sum (negsuc a) (pos b) = either (ltb b (suc a)) _ _ _ (omega arith) (omega arith)
nat_abs-sum (negsuc a) (negsuc b) = omega arith

-- ---- what fits
pub fits32 : (z : ℤ) → nat_abs z < 2 ^ 31 → SFits w32 z
fits32 z h = record { sfits = omega (arith, mag-nat_abs z) }

-- ---- what is read back
-- a field of any width
pub told : (w : Width) (z : ℤ) → mag z < 2 ^ hbits w → to_z w (of_z w z) ≡ z
told w z h = to_z-of_z {w = w} {z = z} (record { sfits = h })

-- four fields
pub amp-told : (w : Width) (a b c d : ℤ) → mag a < 2 ^ hbits w → mag b < 2 ^ hbits w → mag c < 2 ^ hbits w → mag d < 2 ^ hbits w → amp (to_z w (of_z w a)) (to_z w (of_z w b)) (to_z w (of_z w c)) (to_z w (of_z w d)) ≡ amp a b c d
amp-told w a b c d ha hb hc hd = rw (told w a ha, told w b hb, told w c hc, told w d hd)
