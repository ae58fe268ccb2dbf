-- Each pair has a place of its own, in the words of its image state. Assumes nothing.
use mathlib.Core.Path.{◌≡◌, refl, ap, ◌∙◌}
use mathlib.Core.Bool.{Bool, true, false}
use mathlib.Core.List.{List}
use Prim.Native.Nat.{ℕ, suc, ◌+◌, ◌*◌, ◌<◌, ◌≤◌}
use native.Mathlib.Decide.{dec_lt}
use native.Mathlib.Nat.{suc-mul, mul-le-mul, mul-le-mul_right}
use native.Mathlib.Omega.{arith}
use lib.Dec.{eqb}
use borrow.Author.Tests.{eqb-true, eqb-false}
use Rattle.flags.specs.Flags.{flag_at, Flagged, Cleared}
use Rattle.meeting.specs.Met.{place, is_met, Meeting, Emptied}

-- the words of a smaller state stand before
pub words-before : (wide q s : ℕ) → q < s → q * wide + wide ≤ s * wide
words-before wide q s h =
    let le : suc q ≤ s = omega arith in
    omega (arith, mul-le-mul_right wide le, suc-mul q wide)

pub small_product : (x y : ℕ) → x < 65536 → y < 65536 → x * y ≤ 4294836225
small_product x y h k =
    let a : x ≤ 65535 = omega arith in
    let b : y ≤ 65535 = omega arith in
    mul-le-mul a b

own-place : (wide s e q f : ℕ) → e < wide * 32 → f < wide * 32 → place wide q f ≡ place wide s e → (q ≡ s) × (f ≡ e)
own-place wide s e q f h k p = go (dec_lt q s) (dec_lt s q)
  where
    go : Dec (q < s) → Dec (s < q) → (q ≡ s) × (f ≡ e)
    go (yes l) d = absurd (omega (arith, words-before wide q s l))
    go (no l) (yes m) = absurd (omega (arith, words-before wide s q m))
    go (no l) (no m) =
        let same : q ≡ s = omega arith in
        (same, omega (arith, ap (λ (x : ℕ). x * wide) same))

flag_grows : {words words' : List ℕ} {i : ℕ} → Flagged words i words' → (j : ℕ) → flag_at words j ≡ true → flag_at words' j ≡ true
flag_grows {words} {words'} {i} w j h = go (eqb j i) refl
  where
    go : (b : Bool) → eqb j i ≡ b → flag_at words' j ≡ true
    go true e = ap (flag_at words') (eqb-true j i e) ∙ w.here
    go false e = w.others j (eqb-false j i e) ∙ h

pub met_flag : (wide : ℕ) {met met' : List ℕ} (s e : ℕ) → e < wide * 32 → Flagged met (place wide s e) met' → Meeting wide met s e met'
unfolding is_met
met_flag wide s e h w = record {
  here = w.here;
  others = λ q f k apart. w.others (place wide q f) (λ p. apart (own-place wide s e q f h k p));
  grows = λ q f k. flag_grows w (place wide q f) k;
}

pub emptied_words : (wide : ℕ) {met met' : List ℕ} (from to : ℕ) → Cleared met (from * wide) (to * wide) met' → Emptied wide met from to met'
unfolding is_met
emptied_words wide from to w = record {
  within = λ q f k lo hi. w.within (place wide q f) (omega (arith, mul-le-mul_right wide lo)) (omega (arith, words-before wide q to hi));
  before = λ q f k lt. w.before (place wide q f) (omega (arith, words-before wide q from lt));
}
