-- A scan of rows takes its first row and goes on with the others. Assumes nothing.
use mathlib.Core.Path.{◌≡◌, sym, ap, ◌∙◌}
use mathlib.Core.Bool.{Bool, true, false, cond}
use mathlib.Core.List.{List}
use mathlib.Core.Option.{none, some}
use Prim.Native.Nat.{ℕ, suc, ◌+◌, ◌-◌, ◌<◌, ◌≤◌}
use native.Mathlib.Numerals.{add-one}
use native.Mathlib.Omega.{arith}
use lib.Bits.{bit_or}
use Rattle.std.specs.Int.Bits.{or_zero_r}
use Rattle.std.proofs.lemmas.Nat.Bits.{bit_at_or, same_from_bits}
use lib.ListN.{get_or}
use Rattle.automata.specs.Choice.{has}
use Rattle.lookup.specs.Lookup.{row_with, union_of}

module _ (masks : List ℕ) (c i to : ℕ) where
  row-turn : i < to → row_with masks c i (to - i) ≡ cond (has (get_or masks i 0) c) (some i) (row_with masks c (i + 1) (to - (i + 1)))
  unfolding row_with
  row-turn h =
      let e : to - i ≡ suc (to - (i + 1)) = omega arith in
      ap (row_with masks c i) e ∙ ap (λ (n : ℕ). cond (has (get_or masks i 0) c) (some i) (row_with masks c n (to - (i + 1)))) (sym (add-one i))

  pub row_here : i < to → has (get_or masks i 0) c ≡ true → row_with masks c i (to - i) ≡ some i
  row_here h e = row-turn h ∙ ap (λ (b : Bool). cond b (some i) (row_with masks c (i + 1) (to - (i + 1)))) e

  pub row_on : i < to → has (get_or masks i 0) c ≡ false → row_with masks c (i + 1) (to - (i + 1)) ≡ row_with masks c i (to - i)
  row_on h e = sym (row-turn h ∙ ap (λ (b : Bool). cond b (some i) (row_with masks c (i + 1) (to - (i + 1)))) e)

  pub row-none : to ≤ i → row_with masks c i (to - i) ≡ none
  unfolding row_with
  row-none h = let e : to - i ≡ 0 = omega arith in ap (row_with masks c i) e

or_assoc : (a b c : ℕ) → bit_or (bit_or a b) c ≡ bit_or a (bit_or b c)
or_assoc a b c = same_from_bits _ _ (λ i. omega (arith, bit_at_or (bit_or a b) c i, bit_at_or a b i, bit_at_or a (bit_or b c) i, bit_at_or b c i))

module _ (masks : List ℕ) (all i to : ℕ) where
  -- the first row of those left is joined to what is collected
  pub union_more : i < to → bit_or (bit_or all (get_or masks i 0)) (union_of masks (i + 1) (to - (i + 1))) ≡ bit_or all (union_of masks i (to - i))
  unfolding union_of
  union_more h =
      let e : to - i ≡ suc (to - (i + 1)) = omega arith in
      rw e (or_assoc all (get_or masks i 0) (union_of masks (i + 1) (to - (i + 1))) ∙ ap (λ (j : ℕ). bit_or all (bit_or (get_or masks i 0) (union_of masks j (to - (i + 1))))) (add-one i))

  -- no row is left
  pub union-none : to ≤ i → bit_or all (union_of masks i (to - i)) ≡ all
  unfolding union_of
  union-none h = let e : to - i ≡ 0 = omega arith in rw e (or_zero_r all)
