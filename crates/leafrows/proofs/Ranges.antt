-- The range of an amplitude is a bound on each coefficient's size, and times ω moves coefficients and flips a sign: no size changes. Assumes nothing.
use mathlib.Core.Path.{◌≡◌}
use mathlib.Core.Bool.{true}
use Prim.Native.Nat.{ℕ, zero, suc}
use lib.IntN.{nat_abs}
use borrow.Author.Tests.{leb-true, le-leb}
use Rattle.amplitude.specs.Amp.{Amp, amp, timesω, ω^, most, in_range, in_range_a}
use Rattle.amplitude.proofs.Equal.{both}
use Rattle.leafrows.specs.Value.{Within}
use Rattle.leafrows.proofs.Signed.{nat_abs_neg}

pub range-within : (x : Amp) → in_range_a x ≡ true → Within most x
range-within (amp a b c d) h =
    let p = both (in_range a) _ h in
    let q = both (in_range b) _ p.1 in
    let r = both (in_range c) _ q.1 in
    (leb-true (nat_abs a) most p.0, leb-true (nat_abs b) most q.0, leb-true (nat_abs c) most r.0, leb-true (nat_abs d) most r.1)

pub within-range : (x : Amp) → Within most x → in_range_a x ≡ true
within-range (amp a b c d) (p, q, r, s) = rw (le-leb (nat_abs a) most p, le-leb (nat_abs b) most q, le-leb (nat_abs c) most r, le-leb (nat_abs d) most s)

within-ω : (m : ℕ) (x : Amp) → Within m x → Within m (timesω x)
within-ω m (amp a b c d) (p, q, r, s) = (rw nat_abs_neg s, p, q, r)

pub within-ω^ : (m j : ℕ) (x : Amp) → Within m x → Within m (ω^ j x)
within-ω^ m zero x h = h
within-ω^ m (suc j) x h = within-ω m (ω^ j x) (within-ω^ m j x h)

pub range-ω^ : (j : ℕ) (x : Amp) → in_range_a x ≡ true → in_range_a (ω^ j x) ≡ true
range-ω^ j x h = within-range (ω^ j x) (within-ω^ most j x (range-within x h))
