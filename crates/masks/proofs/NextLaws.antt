-- The least choice of what is left of a mask, from a choice on, is its next one. Assumes nothing.
use mathlib.Core.Path.{◌≡◌, sym, ap, ◌∙◌}
use mathlib.Core.Bool.{true, false≢true}
use Prim.Native.Nat.{ℕ, ◌+◌, ◌-◌, ◌/◌, ◌%◌, ◌^◌, ◌<◌, ◌≤◌}
use native.Mathlib.Decide.{dec_lt}
use native.Mathlib.Nat.{div-div-eq-div-mul, div-le_self, div-eq_of_lt}
use native.Mathlib.Omega.{arith}
use lib.Dec.{eqb}
use lib.Pow.{pow-add, pow_mono}
use Rattle.automata.specs.Choice.{has, least}
use Rattle.automata.proofs.Masks.{has-zero, below-least, least_in}
use Rattle.masks.specs.Next.{FirstFrom, NoneFrom}

-- a 32-bit mask has no other choices
below_32 : (mask c : ℕ) → mask < 2 ^ 32 → has mask c ≡ true → c < 32
below_32 mask c small h = go (dec_lt c 32)
  where
    go : Dec (c < 32) → c < 32
    go (yes l) = l
    go (no l) =
        let over : 32 ≤ c = omega arith in
        let le : 2 ^ 32 ≤ 2 ^ c = pow_mono over in
        let lt : mask < 2 ^ c = omega arith in
        absurd (false≢true (sym (ap (λ (x : ℕ). eqb (x % 2) 1) (div-eq_of_lt lt)) ∙ h))

pub none_left : (mask from : ℕ) → 32 ≤ from → NoneFrom mask from
none_left mask from h = record { all = λ d lo hi. absurd (omega arith) }

-- what is left of the mask from choice `from` on
module _ (mask from : ℕ) where
  shifted : (d : ℕ) → has (mask / 2 ^ from) d ≡ has mask (from + d)
  shifted d = ap (λ (x : ℕ). eqb (x % 2) 1) (div-div-eq-div-mul mask (2 ^ from) (2 ^ d) ∙ ap (λ (x : ℕ). mask / x) (sym (pow-add 2 from d)))

  back : (d : ℕ) → from ≤ d → has mask d ≡ has (mask / 2 ^ from) (d - from)
  back d lo = let e : from + (d - from) ≡ d = omega arith in ap (has mask) (sym e) ∙ sym (shifted (d - from))

  pub no_next : mask / 2 ^ from ≡ 0 → NoneFrom mask from
  no_next none = record { all = λ d lo hi. back d lo ∙ ap (λ (x : ℕ). has x (d - from)) none ∙ has-zero (d - from) }

  module _ (some : 0 < mask / 2 ^ from) (small : mask < 2 ^ 32) where
    in_mask : has mask (from + least (mask / 2 ^ from)) ≡ true
    in_mask = sym (shifted (least (mask / 2 ^ from))) ∙ least_in (mask / 2 ^ from) (record { some = some; small = omega (arith, div-le_self mask (2 ^ from)) })

    pub next_small : {t : ℕ} → t ≡ least (mask / 2 ^ from) → from + t < 32
    next_small e = omega (arith, e, below_32 mask (from + least (mask / 2 ^ from)) small in_mask)

    pub is-next : {t : ℕ} → t ≡ least (mask / 2 ^ from) → FirstFrom mask from (from + t)
    is-next {t} e = record {
      after = omega arith;
      below = next_small e;
      skipped = λ d lo hi. back d lo ∙ below-least (mask / 2 ^ from) (d - from) (omega arith);
      here = ap (λ (x : ℕ). has mask (from + x)) e ∙ in_mask;
    }
