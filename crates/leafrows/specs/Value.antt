-- Document 01, "Amplitudes": the code's amplitudes, and which amplitudes of the definitions they are.
use Rattle.std.specs.Prelude.{◌≡◌, true, ℕ, ◌≤◌, nat_abs, Option, is_some, IfSome}
use Rattle.amplitude.specs.Amp.{Amp, amp, in_range_a}
use Rattle.leafrows.specs.declared.Amplitude.{Amplitude}

-- the amplitude that a value is
abbrev pub amp_is : Amplitude → Amp
amp_is x = amp x.a x.b x.c x.d

-- the value that an amplitude is
abbrev pub amp_from : Amp → Amplitude
amp_from (amp a b c d) = record { a = a; b = b; c = c; d = d }

-- "Each of a, b, c, d is from −1,073,741,824 to 1,073,741,824."
abbrev pub InRange : Amplitude → Type 0
InRange x = in_range_a (amp_is x) ≡ true

-- no coefficient's size is over m
abbrev pub Within : ℕ → Amp → Type 0
Within m (amp a b c d) = (nat_abs a ≤ m) × (nat_abs b ≤ m) × (nat_abs c ≤ m) × (nat_abs d ≤ m)

-- what a test of x answers: x itself if it is in range, else nothing
pub record Tested (x : Amp) (r : Option Amplitude) : Type 0 where
  pub told : is_some r ≡ in_range_a x
  pub is : IfSome r (λ y. amp_is y ≡ x)
  pub range : IfSome r InRange
