-- Document 01, "Equal": the code's wide numbers, and which amplitudes of the definitions they are.
use Rattle.std.specs.Prelude.{ℕ}
use Rattle.amplitude.specs.Amp.{Amp, amp}
use Rattle.equality.specs.declared.Wide.{Wide}

-- the amplitude that a value is
abbrev pub wide_is : Wide → Amp
wide_is x = amp x.a x.b x.c x.d

-- 2^62: the size that no coefficient passes in 64 steps
abbrev pub wide_most : ℕ
wide_most = 4611686018427387904
