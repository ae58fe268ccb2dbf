-- Document 01, "Amplitudes": a + bω + cω² + dω³ over unlimited whole numbers, with ω⁴ = −1.
use Rattle.std.specs.Prelude.{Bool, false, ◌&&◌, ℕ, zero, suc, ℤ, pos, negsuc, nat_abs, neg_ℤ, ◌+ℤ◌, ◌-ℤ◌, eqb, leb}

-- "a + bω + cω² + dω³"
pub data Amp : Type 0 where
  amp : ℤ → ℤ → ℤ → ℤ → Amp

-- "Times ω: (a,b,c,d) becomes (−d,a,b,c)."
abbrev pub timesω : Amp → Amp
timesω (amp a b c d) = amp (neg_ℤ d) a b c

-- "Times √2: (b−d, a+c, b+d, c−a)."
abbrev pub times√2 : Amp → Amp
times√2 (amp a b c d) = amp (b -ℤ d) (a +ℤ c) (b +ℤ d) (c -ℤ a)

-- the sum and the difference, coefficient by coefficient
infixl 60 ◌⊕◌
abbrev pub ◌⊕◌ : Amp → Amp → Amp
◌⊕◌ (amp a b c d) (amp a' b' c' d') = amp (a +ℤ a') (b +ℤ b') (c +ℤ c') (d +ℤ d')

infixl 60 ◌⊖◌
abbrev pub ◌⊖◌ : Amp → Amp → Amp
◌⊖◌ (amp a b c d) (amp a' b' c' d') = amp (a -ℤ a') (b -ℤ b') (c -ℤ c') (d -ℤ d')

-- times ω^j
abbrev pub ω^ : ℕ → Amp → Amp
ω^ zero x = x
ω^ (suc j) x = timesω (ω^ j x)

-- times √2^j
abbrev pub √2^ : ℕ → Amp → Amp
√2^ zero x = x
√2^ (suc j) x = times√2 (√2^ j x)

abbrev pub 0A : Amp
0A = amp (pos 0) (pos 0) (pos 0) (pos 0)

-- "the same four numbers", as a test
abbrev pub same_z : ℤ → ℤ → Bool
same_z (pos a) (pos b) = eqb a b
same_z (pos a) (negsuc b) = false
same_z (negsuc a) (pos b) = false
same_z (negsuc a) (negsuc b) = eqb a b

abbrev pub same_a : Amp → Amp → Bool
same_a (amp a b c d) (amp a' b' c' d') = same_z a a' && (same_z b b' && (same_z c c' && same_z d d'))

-- "Each of a, b, c, d is from −1,073,741,824 to 1,073,741,824."
abbrev pub most : ℕ
most = 1073741824

abbrev pub in_range : ℤ → Bool
in_range z = leb (nat_abs z) most

abbrev pub in_range_a : Amp → Bool
in_range_a (amp a b c d) = in_range a && (in_range b && (in_range c && in_range d))
