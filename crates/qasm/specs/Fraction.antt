-- Document 02, request 1: "Values are r + s times pi, r and s fractions": fractions in least terms, over numbers of any size, a sign beside the size.
use Rattle.std.specs.Prelude.{Bool, true, false, cond, ◌&&◌, not, ℕ, zero, suc, ◌+◌, ◌*◌, ◌-◌, ◌/◌, ◌%◌, eqb, leb}
use Rattle.std.proofs.Math.Option.{Option, none, some}

-- Euclid: the greatest common divisor of a and b, if b is at most the first number, the steps that may be taken
unfoldable pub gcd_in : ℕ → ℕ → ℕ → ℕ
gcd_in zero a b = a
gcd_in (suc k) a b = cond (eqb b 0) a (gcd_in k b (a % b))

unfoldable pub gcd : ℕ → ℕ → ℕ
gcd a b = gcd_in b a b

-- a minus or none, numerator, denominator; zero is 0/1
pub data Fraction : Type 0 where
  fraction : Bool → ℕ → ℕ → Fraction

-- "a reduced numerator or denominator over 1,000,000 in size"
abbrev pub size_most : ℕ
size_most = 1000000

unfoldable pub inside : ℕ → ℕ → Bool
inside n d = leb n size_most && leb d size_most

-- in least terms, if both are then inside
unfoldable pub reduced : Bool → ℕ → ℕ → Option Fraction
reduced m n d = let g = gcd n d in cond (inside (n / g) (d / g)) (some (fraction (m && not (eqb n 0)) (n / g) (d / g))) none

-- a sum of two numbers with signs: the sign, and the size
unfoldable pub sum_sign : Bool → ℕ → Bool → ℕ → Bool
sum_sign m a k b = cond (leb b a) m k

abbrev pub sum_size : Bool → ℕ → Bool → ℕ → ℕ
sum_size true a true b = a + b
sum_size false a false b = a + b
sum_size true a false b = (a - b) + (b - a)
sum_size false a true b = (a - b) + (b - a)

abbrev pub plus_f : Fraction → Fraction → Option Fraction
plus_f (fraction m a b) (fraction k c d) = reduced (sum_sign m (a * d) k (c * b)) (sum_size m (a * d) k (c * b)) (b * d)

abbrev pub other_sign : Bool → Bool → Bool
other_sign true true = false
other_sign true false = true
other_sign false true = true
other_sign false false = false

abbrev pub times_f : Fraction → Fraction → Option Fraction
times_f (fraction m a b) (fraction k c d) = reduced (other_sign m k) (a * c) (b * d)

-- by one that is not zero
abbrev pub over_f : Fraction → Fraction → Option Fraction
over_f (fraction m a b) (fraction k c d) = reduced (other_sign m k) (a * d) (b * c)

abbrev pub minus_f : Fraction → Fraction
minus_f (fraction m a b) = fraction (not m && not (eqb a 0)) a b

abbrev pub is_zero : Fraction → Bool
is_zero (fraction m a b) = eqb a 0

abbrev pub 0F : Fraction
0F = fraction false 0 1

abbrev pub whole : ℕ → Fraction
whole n = fraction false n 1
