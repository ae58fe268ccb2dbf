-- A level's records are those of its first state, and then those of the states after it. Assumes nothing.
use mathlib.Core.Path.{◌≡◌, ap, ap₂, ◌∙◌}
use mathlib.Core.List.{List}
use Prim.Native.Nat.{ℕ, suc, ◌+◌, ◌<◌, ◌≤◌}
use native.Mathlib.Omega.{arith}
use lib.Dec.{eqb}
use lib.ListN.{length, get_or, take, length-take, drop_of_length-le}
use lib.Seq.{slice, slice-cons}
use Rattle.automata.specs.Choice.{Alt}
use Rattle.stepwise.specs.Grow.{Level, grow_state, grow_all}

module _ (base : ℕ) (f : ℕ → List (Alt (ℕ × ℕ))) (start : ℕ) (cur : List ℕ) (count : ℕ) where
  -- what is left from key k on
  abbrev pub left_from : ℕ → Level ℕ → Level ℕ
  left_from k = grow_all eqb base f (start + k) (slice k count cur)

  pub left-all : (G : Level ℕ) → left_from 0 G ≡ grow_all eqb base f start (take count cur) G
  left-all G = let e : start + 0 ≡ start = omega arith in ap (λ (s : ℕ). grow_all eqb base f s (take count cur) G) e

  pub left-turn : (k : ℕ) → k < count → count ≤ length cur → (G : Level ℕ) → left_from k G ≡ left_from (k + 1) (grow_state eqb base (start + k) (f (get_or cur k 0)) G)
  unfolding grow_all
  left-turn k h there G =
      let e : suc (start + k) ≡ start + (k + 1) = omega arith in
      let n : suc k ≡ k + 1 = omega arith in
      ap (λ (ks : List ℕ). grow_all eqb base f (start + k) ks G) (slice-cons k count cur 0 h there)
      ∙ ap₂ (λ (s i : ℕ). grow_all eqb base f s (slice i count cur) (grow_state eqb base (start + k) (f (get_or cur k 0)) G)) e n

  pub left-none : (k : ℕ) → count ≤ k → (G : Level ℕ) → left_from k G ≡ G
  unfolding grow_all
  left-none k h G =
      let short : length (take count cur) ≤ k = omega (arith, length-take count cur) in
      ap (λ (ks : List ℕ). grow_all eqb base f (start + k) ks G) (drop_of_length-le (take count cur) short)
