-- Keys as they are stored tell apart every kind, tag and both numbers below 65,536: each is a digit of its own in radix 65,536, so pairs past
-- 16,777,216 stay apart too. Assumes nothing.
use mathlib.Core.Path.{◌≡◌, refl, ap}
use Prim.Native.Nat.{ℕ, ◌+◌, ◌<◌}
use native.Mathlib.Omega.{arith}
use Rattle.gates.specs.Key.{Side, L, R, Key, plain, shifted, inside, pair, radix, packed, side_tag, stored}

pub digits-apart : (t q p t' q' p' : ℕ) → q < radix → p < radix → q' < radix → p' < radix → packed t q p ≡ packed t' q' p' → (t ≡ t') × (q ≡ q') × (p ≡ p')
digits-apart t q p t' q' p' a b c d e = (omega arith, omega arith, omega arith)

-- the digits of a stored key
abbrev tag_of : Key → ℕ
tag_of (plain q) = 0
tag_of (inside q) = 1
tag_of (pair q p s) = side_tag s
tag_of (shifted j q) = 4 + j

abbrev first_of : Key → ℕ
first_of (plain q) = q
first_of (inside q) = q
first_of (pair q p s) = q
first_of (shifted j q) = q

abbrev second_of : Key → ℕ
second_of (plain q) = 0
second_of (inside q) = 0
second_of (pair q p s) = p
second_of (shifted j q) = 0

stored_is : (x : Key) → stored x ≡ packed (tag_of x) (first_of x) (second_of x)
stored_is (plain q) = refl
stored_is (inside q) = refl
stored_is (pair q p s) = refl
stored_is (shifted j q) = refl

-- both old numbers fit two bytes
pub record Narrow (x : Key) : Type 0 where
  pub first : first_of x < radix
  pub second : second_of x < radix

side_apart : (s u : Side) → side_tag s ≡ side_tag u → s ≡ u
side_apart L L e = refl
side_apart L R e = absurd (omega arith)
side_apart R L e = absurd (omega arith)
side_apart R R e = refl

-- a tag from 4 on is a shift's
side_small : (s : Side) → side_tag s < 4
side_small L = omega arith
side_small R = omega arith

side_large : (s : Side) → 1 < side_tag s
side_large L = omega arith
side_large R = omega arith

same_digits : (x y : Key) → tag_of x ≡ tag_of y → first_of x ≡ first_of y → second_of x ≡ second_of y → x ≡ y
same_digits (plain q) (plain p) t e f = ap plain e
same_digits (plain q) (inside p) t e f = absurd (omega arith)
same_digits (plain q) (pair p p' s) t e f = absurd (omega (arith, side_large s))
same_digits (plain q) (shifted j p) t e f = absurd (omega arith)
same_digits (inside q) (plain p) t e f = absurd (omega arith)
same_digits (inside q) (inside p) t e f = ap inside e
same_digits (inside q) (pair p p' s) t e f = absurd (omega (arith, side_large s))
same_digits (inside q) (shifted j p) t e f = absurd (omega arith)
same_digits (pair q q' u) (plain p) t e f = absurd (omega (arith, side_large u))
same_digits (pair q q' u) (inside p) t e f = absurd (omega (arith, side_large u))
same_digits (pair q q' u) (pair p p' s) t e f = let h : u ≡ s = side_apart u s t in cc
same_digits (pair q q' u) (shifted j p) t e f = absurd (omega (arith, side_small u))
same_digits (shifted i q) (plain p) t e f = absurd (omega arith)
same_digits (shifted i q) (inside p) t e f = absurd (omega arith)
same_digits (shifted i q) (pair p p' s) t e f = absurd (omega (arith, side_small s))
same_digits (shifted i q) (shifted j p) t e f = let h : i ≡ j = omega arith in cc

pub keys-apart : (x y : Key) → Narrow x → Narrow y → stored x ≡ stored y → x ≡ y
keys-apart x y h k e =
    let d = digits-apart (tag_of x) (first_of x) (second_of x) (tag_of y) (first_of y) (second_of y) h.first h.second k.first k.second (cc (stored_is x, e, stored_is y)) in
    same_digits x y d.0 d.1 d.2
