-- Trying one number after the other: what is left to try, from here, comes to the whole. Assumes nothing.
use mathlib.Core.Path.{◌≡◌, sym, ap, ◌∙◌}
use mathlib.Core.Bool.{Bool, true, false, ◌||◌}
use Prim.Native.Nat.{ℕ, zero, suc, ◌+◌, ◌-◌, ◌<◌, ◌≤◌}
use native.Mathlib.Numerals.{add-one}
use native.Mathlib.Omega.{arith}
use Rattle.automata.specs.Choice.{has}
use Rattle.automata.specs.Members.{up_to}
use Rattle.masks.specs.Next.{FirstFrom, NoneFrom}
use Rattle.verdict.specs.Search.{fits_one}

module _ (f : ℕ → Bool) (most i : ℕ) where
  try_turn : i < most → fits_one f (up_to i (most - i)) ≡ f i || fits_one f (up_to (i + 1) (most - (i + 1)))
  try_turn h =
      let e : most - i ≡ suc (most - (i + 1)) = omega arith in
      rw (e, add-one i)

  pub try_here : i < most → f i ≡ true → fits_one f (up_to i (most - i)) ≡ true
  try_here h e = try_turn h ∙ ap (λ (b : Bool). b || fits_one f (up_to (i + 1) (most - (i + 1)))) e

  pub try_on : i < most → f i ≡ false → fits_one f (up_to (i + 1) (most - (i + 1))) ≡ fits_one f (up_to i (most - i))
  try_on h e = sym (try_turn h ∙ ap (λ (b : Bool). b || fits_one f (up_to (i + 1) (most - (i + 1)))) e)

  pub try_none : most ≤ i → fits_one f (up_to i (most - i)) ≡ false
  try_none h = let e : most - i ≡ 0 = omega arith in rw e

-- ---- from one choice of a mask to the next, where no other one can pass
module _ (f : ℕ → Bool) (most : ℕ) where
  passed_over : (i k : ℕ) → i + k ≤ most → ((b : ℕ) → i ≤ b → b < i + k → f b ≡ false) → fits_one f (up_to (i + k) (most - (i + k))) ≡ fits_one f (up_to i (most - i))
  passed_over i zero h none = let e : i + 0 ≡ i = omega arith in ap (λ (x : ℕ). fits_one f (up_to x (most - x))) e
  passed_over i (suc k) h none =
      let e : i + suc k ≡ i + k + 1 = omega arith in
      ap (λ (x : ℕ). fits_one f (up_to x (most - x))) e ∙ try_on f most (i + k) (omega arith) (none (i + k) (omega arith) (omega arith))
      ∙ passed_over i k (omega arith) (λ b lo hi. none b lo (omega arith))

module _ (f : ℕ → Bool) {mask i : ℕ} (none : (b : ℕ) → b < 32 → has mask b ≡ false → f b ≡ false) where
  pub try_next : {j : ℕ} → FirstFrom mask i j → fits_one f (up_to j (32 - j)) ≡ fits_one f (up_to i (32 - i))
  try_next {j} n =
      let a = n.after in
      let m = n.below in
      let e : i + (j - i) ≡ j = omega arith in
      ap (λ (x : ℕ). fits_one f (up_to x (32 - x))) (sym e) ∙ passed_over f 32 i (j - i) (omega arith) (λ b lo hi. none b (omega arith) (n.skipped b lo (omega arith)))

  pub try_end : i ≤ 32 → NoneFrom mask i → false ≡ fits_one f (up_to i (32 - i))
  try_end h n =
      let e : i + (32 - i) ≡ 32 = omega arith in
      sym (try_none f 32 32 (omega arith)) ∙ ap (λ (x : ℕ). fits_one f (up_to x (32 - x))) (sym e)
      ∙ passed_over f 32 i (32 - i) (omega arith) (λ b lo hi. none b (omega arith) (n.all b lo (omega arith)))
