-- Where states in rows do not fall, the rows of smaller states are those before the first row of a state that is not smaller. Assumes nothing.
use mathlib.Core.Path.{◌≡◌, refl, sym, ap, ◌∙◌}
use mathlib.Core.Bool.{Bool, true, false, cond}
use mathlib.Core.List.{List}
use Prim.Native.Nat.{ℕ, zero, suc, ◌<◌, ◌≤◌}
use native.Mathlib.Decide.{dec_lt}
use native.Mathlib.Omega.{arith}
use lib.Dec.{ltb}
use borrow.Author.Tests.{ltb-true, ltb-false, lt-ltb, le-ltb}
use Rattle.tables.specs.Table.{rows_below}
use Rattle.tables.specs.States.{state_row, Rising}

module _ (rows : List ℕ) (s : ℕ) where
  pub below-are : (total i : ℕ) → i ≤ total → ((j : ℕ) → j < i → state_row rows j < s) → ((j : ℕ) → i ≤ j → j < total → s ≤ state_row rows j) → rows_below rows s total ≡ i
  unfolding rows_below
  below-are zero i h low high = omega arith
  below-are (suc total) i h low high = go (ltb (state_row rows total) s) refl (below-are total)
    where
      -- the last row is of a smaller state exactly if it is one of the first i
      last : Dec (total < i) → ltb (state_row rows total) s ≡ ltb total i
      last (yes l) = lt-ltb (state_row rows total) s (low total l) ∙ sym (lt-ltb total i l)
      last (no l) = le-ltb (state_row rows total) s (high total (omega arith) (omega arith)) ∙ sym (le-ltb total i (omega arith))

      go : (b : Bool) → ltb (state_row rows total) s ≡ b
          → ((k : ℕ) → k ≤ total → ((j : ℕ) → j < k → state_row rows j < s) → ((j : ℕ) → k ≤ j → j < total → s ≤ state_row rows j) → rows_below rows s total ≡ k)
          → cond b (suc (rows_below rows s total)) (rows_below rows s total) ≡ i
      go true e ih =
          let t = ltb-true total i (sym (last (dec_lt total i)) ∙ e) in
          ap suc (ih total (omega arith) (λ j lt. low j (omega arith)) (λ j le lt. absurd (omega arith))) ∙ omega arith
      go false e ih =
          let t = ltb-false total i (sym (last (dec_lt total i)) ∙ e) in
          ih i (omega arith) low (λ j le lt. high j le (omega arith))

  -- where row i is no row of a smaller state, no later row is one
  pub none-later : (total i : ℕ) → Rising (state_row rows) total → (i < total → s ≤ state_row rows i) → (j : ℕ) → i ≤ j → j < total → s ≤ state_row rows j
  none-later total i sorted here j h lt = let up = sorted.rises i j h lt in let low = here (omega arith) in omega arith

  -- the rows before row i are of states below s, and those from it on are not
  pub record Split (total i : ℕ) : Type 0 where
    pub within : i ≤ total
    pub low : (j : ℕ) → j < i → state_row rows j < s
    pub high : (j : ℕ) → i ≤ j → j < total → s ≤ state_row rows j

  pub below_splits : (total : ℕ) → Rising (state_row rows) total → Split total (rows_below rows s total)
  unfolding rows_below
  below_splits zero r = record { within = omega arith; low = λ j lt. absurd (omega arith); high = λ j le lt. absurd (omega arith) }
  below_splits (suc total) r = go (ltb (state_row rows total) s) refl (below_splits total (record { rises = λ i j le lt. r.rises i j le (omega arith) }))
    where
      -- where the last row is of a smaller state, all are
      full : state_row rows total < s → Split total (rows_below rows s total) → Dec (rows_below rows s total < total) → rows_below rows s total ≡ total
      full l ih (yes h) = absurd (omega (arith, ih.high (rows_below rows s total) (omega arith) h, r.rises (rows_below rows s total) total (omega arith) (omega arith)))
      full l ih (no h) = omega (arith, ih.within)

      last : s ≤ state_row rows total → Split total (rows_below rows s total) → (j : ℕ) → rows_below rows s total ≤ j → j < suc total → Dec (j < total) → s ≤ state_row rows j
      last l ih j le lt (yes h) = ih.high j le h
      last l ih j le lt (no h) = let e : j ≡ total = omega arith in rw e l

      go : (b : Bool) → ltb (state_row rows total) s ≡ b → Split total (rows_below rows s total) → Split (suc total) (cond b (suc (rows_below rows s total)) (rows_below rows s total))
      go true e ih =
          let l = ltb-true (state_row rows total) s e in
          let all = full l ih (dec_lt (rows_below rows s total) total) in
          record { within = omega arith; low = λ j lt. omega (arith, r.rises j total (omega arith) (omega arith)); high = λ j le lt. absurd (omega arith) }
      go false e ih =
          let l = ltb-false (state_row rows total) s e in
          record { within = omega (arith, ih.within); low = ih.low; high = λ j le lt. last l ih j le lt (dec_lt j total) }
