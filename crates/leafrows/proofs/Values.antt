-- A value is its amplitude and the other way round, so what a test of an amplitude answers is determined by it. Assumes nothing.
use mathlib.Core.Path.{◌≡◌, refl, sym, ap, ◌∙◌}
use mathlib.Core.Bool.{Bool, true, false, cond, false≢true}
use lib.IntN.{ℤ}
use Rattle.std.specs.Prelude.{Option, Some, None}
use Rattle.amplitude.specs.Amp.{Amp, amp, in_range, in_range_a}
use Rattle.leafrows.specs.declared.Amplitude.{Amplitude}
use Rattle.leafrows.specs.Value.{amp_is, amp_from, Tested}

pub is-from : (x : Amp) → amp_is (amp_from x) ≡ x
is-from (amp a b c d) = refl

pub from_is : (x : Amplitude) → amp_from (amp_is x) ≡ x
from_is x = refl

pub same-value : (x y : Amplitude) → amp_is x ≡ amp_is y → x ≡ y
same-value x y e = ap amp_from e

-- ---- what a test answers
pub passed : (x : Amp) (y : Amplitude) → in_range_a x ≡ true → amp_is y ≡ x → Tested x (Some y)
passed x y h e = record { told = sym h; is = e; range = ap in_range_a e ∙ h }

pub failed : (x : Amp) → in_range_a x ≡ false → Tested x None
failed x h = record { told = sym h; is = tt; range = tt }

-- a number that is kept as a coefficient
abbrev pub kept : ℤ → Option ℤ
kept z = cond (in_range z) (Some z) None

kept-is : {z y : ℤ} → Some y ≡ kept z → (in_range z ≡ true) × (z ≡ y)
kept-is {z} {y} e = go (in_range z) e
  where
    go : (b : Bool) → Some y ≡ cond b (Some z) None → (b ≡ true) × (z ≡ y)
    go true q = (refl, cc)
    go false q = absurd (cc)

-- four of them
pub all_kept : {a b c d p q r s : ℤ} → Some p ≡ kept a → Some q ≡ kept b → Some r ≡ kept c → Some s ≡ kept d → Tested (amp a b c d) (Some (record { a = p; b = q; c = r; d = s }))
all_kept {a} {b} {c} {d} f g h k =
    let x = kept-is {z = a} f in
    let y = kept-is {z = b} g in
    let z = kept-is {z = c} h in
    let w = kept-is {z = d} k in
    passed _ _ (rw (x.0, y.0, z.0, w.0)) (rw (x.1, y.1, z.1, w.1))

-- two tests of one amplitude answer the same
pub tested_one : (x : Amp) (r r' : Option Amplitude) → Tested x r → Tested x r' → r ≡ r'
tested_one x None None t t' = refl
tested_one x None (Some y) t t' = absurd (false≢true (t.told ∙ sym t'.told))
tested_one x (Some y) None t t' = absurd (false≢true (t'.told ∙ sym t.told))
tested_one x (Some y) (Some y') t t' = ap Some (same-value y y' (t.is ∙ sym t'.is))
