-- A test of all numbers of a range holds exactly if each of them passes. Assumes nothing.
use mathlib.Core.Path.{◌≡◌, refl, sym, ap, ap₂, ◌∙◌}
use mathlib.Core.Bool.{Bool, true, false, ◌&&◌, false≢true}
use Prim.Native.Nat.{ℕ, zero, suc, ◌+◌, ◌-◌, ◌<◌, ◌≤◌}
use native.Mathlib.Decide.{dec_lt}
use native.Mathlib.Omega.{arith}
use lib.Dec.{eqb}
use borrow.Author.Tests.{eqb-true, eqb-false}
use Rattle.amplitude.proofs.Equal.{both}
use Rattle.meeting.specs.All.{all_in}

-- two tests that imply each other are one
pub same_test : (a b : Bool) → (a ≡ true → b ≡ true) → (b ≡ true → a ≡ true) → a ≡ b
same_test true b f g = sym (f refl)
same_test false true f g = g refl
same_test false false f g = refl

module _ (f : ℕ → Bool) where
  pub all_none : (from count : ℕ) → count ≡ 0 → all_in f from count ≡ true
  unfolding all_in
  all_none from zero e = refl
  all_none from (suc count) e = absurd (omega arith)

  pub all_more : (from i : ℕ) → from ≤ i → all_in f from (i + 1 - from) ≡ all_in f from (i - from) && f i
  unfolding all_in
  all_more from i h =
      let e : i + 1 - from ≡ suc (i - from) = omega arith in
      let k : from + (i - from) ≡ i = omega arith in
      rw (e, k)

  pub all_tells : (from count i : ℕ) → all_in f from count ≡ true → from ≤ i → i < from + count → f i ≡ true
  unfolding all_in
  all_tells from zero i h lo hi = absurd (omega arith)
  all_tells from (suc count) i h lo hi = go (eqb i (from + count)) refl (all_tells from count i)
    where
      parts : (all_in f from count ≡ true) × (f (from + count) ≡ true)
      parts = both (all_in f from count) (f (from + count)) h

      go : (b : Bool) → eqb i (from + count) ≡ b → (all_in f from count ≡ true → from ≤ i → i < from + count → f i ≡ true) → f i ≡ true
      go true e ih = ap f (eqb-true i (from + count) e) ∙ parts.1
      go false e ih = ih parts.0 lo (omega (arith, eqb-false i (from + count) e))

  pub all-is : (from count : ℕ) → ((i : ℕ) → from ≤ i → i < from + count → f i ≡ true) → all_in f from count ≡ true
  unfolding all_in
  all-is from zero h = refl
  all-is from (suc count) h = ap₂ ◌&&◌ (all-is from count (λ i lo hi. h i lo (omega arith))) (h (from + count) (omega arith) (omega arith))

-- ---- one number after the other, from `from` on
module _ (f : ℕ → Bool) (from i : ℕ) where
  pub all_on : from ≤ i → all_in f from (i - from) ≡ true → f i ≡ true → all_in f from (i + 1 - from) ≡ true
  all_on h p q = all_more f from i h ∙ ap₂ ◌&&◌ p q

  pub all-stops : (to : ℕ) → from ≤ i → i < to → f i ≡ false → false ≡ all_in f from (to - from)
  all-stops to h k e =
      same_test false (all_in f from (to - from)) (λ z. absurd (false≢true z)) (λ p. sym e ∙ all_tells f from (to - from) i p h (omega arith))

  pub all_done : (to : ℕ) → to ≤ i → (from ≤ to → i ≤ to) → all_in f from (i - from) ≡ true → true ≡ all_in f from (to - from)
  all_done to h k p = go (dec_lt to from)
    where
      go : Dec (to < from) → true ≡ all_in f from (to - from)
      go (yes l) = sym (all_none f from (to - from) (omega arith))
      go (no l) =
          let m : i ≤ to = k (omega arith) in
          let e : to - from ≡ i - from = omega arith in
          sym (ap (all_in f from) e ∙ p)

pub all_ext : (f g : ℕ → Bool) (from count : ℕ) → ((i : ℕ) → from ≤ i → i < from + count → f i ≡ g i) → all_in f from count ≡ all_in g from count
unfolding all_in
all_ext f g from zero h = refl
all_ext f g from (suc count) h = ap₂ ◌&&◌ (all_ext f g from count (λ i lo hi. h i lo (omega arith))) (h (from + count) (omega arith) (omega arith))
