-- Where the rows of a state stand together, choosing among its records is the scan of those rows, because no other row is of that state.
-- Assumes nothing.
use mathlib.Core.Path.{◌≡◌, refl, ap, ap₂, ◌∙◌}
use mathlib.Core.Bool.{Bool, true, false, cond}
use mathlib.Core.List.{List, [], ◌∷◌, ◌++◌, map}
use mathlib.Core.Option.{Option, some}
use Prim.Native.Nat.{ℕ, zero, suc, ◌+◌, ◌-◌, ◌<◌, ◌≤◌}
use native.Mathlib.Numerals.{add-one}
use native.Mathlib.Omega.{arith}
use lib.Dec.{eqb}
use lib.ListN.{get_or}
use borrow.Author.Tests.{eq-eqb, ne_eqb}
use Rattle.automata.specs.Choice.{has, Alt, alt, map_o, choose, map_alt}
use Rattle.automata.specs.Sets.{Rec, rec, own}
use Rattle.automata.proofs.Lists.{Each}
use Rattle.stored.specs.Fields.{records_from}
use Rattle.tables.specs.Table.{tr_row, tr_rows, rows_below}
use Rattle.tables.specs.States.{state_in, state_row, Rising}
use Rattle.tables.proofs.Beginnings.{below_splits}
use Rattle.tables.proofs.TableLaws.{map_rec}
use Rattle.lookup.specs.Lookup.{row_with, pair_row}

-- ---- the records of one state, in lists
module _ {X : Type 0} (s : ℕ) where
  pub own_append : (ts us : List (Rec X)) → own s (ts ++ us) ≡ own s ts ++ own s us
  own_append [] us = refl
  own_append (rec q m x ∷ ts) us = go (eqb q s) (own_append ts us)
    where
      go : (b : Bool) → own s (ts ++ us) ≡ own s ts ++ own s us
          → cond b (alt m x ∷ own s (ts ++ us)) (own s (ts ++ us)) ≡ cond b (alt m x ∷ own s ts) (own s ts) ++ own s us
      go true e = ap (λ (vs : List (Alt X)). alt m x ∷ vs) e
      go false e = e

  pub own-none : (ts : List (Rec X)) → Each (λ t. state_in t ≡ s → ⊥) ts → own s ts ≡ []
  own-none [] h = refl
  own-none (rec q m x ∷ ts) h = rw (ne_eqb q s h.0) (own-none ts h.1)

  pub own-map : {Y : Type 0} (f : X → Y) (ts : List (Rec X)) → own s (map (map_rec f) ts) ≡ map_alt f (own s ts)
  own-map f [] = refl
  own-map {Y} f (rec q m x ∷ ts) = go (eqb q s) (own-map f ts)
    where
      go : (b : Bool) → own s (map (map_rec f) ts) ≡ map_alt f (own s ts)
          → cond b (alt m (f x) ∷ own s (map (map_rec f) ts)) (own s (map (map_rec f) ts)) ≡ map_alt f (cond b (alt m x ∷ own s ts) (own s ts))
      go true e = ap (λ (vs : List (Alt Y)). alt m (f x) ∷ vs) e
      go false e = e

-- ---- in rows
module _ (rows masks : List ℕ) (s : ℕ) where
  -- the rows from a to below b
  abbrev pub Not : ℕ → ℕ → Type 0
  Not a b = (j : ℕ) → a ≤ j → j < b → state_row rows j ≡ s → ⊥

  own_out : (a count : ℕ) → (state_row rows a ≡ s → ⊥) → own s (tr_rows rows masks a (suc count)) ≡ own s (tr_rows rows masks (a + 1) count)
  unfolding tr_rows records_from tr_row
  own_out a count h = rw (ne_eqb (state_row rows a) s h)

  pub own_in : (a count : ℕ) → state_row rows a ≡ s → own s (tr_rows rows masks a (suc count)) ≡ alt (get_or masks a 0) (pair_row rows a) ∷ own s (tr_rows rows masks (a + 1) count)
  unfolding tr_rows records_from tr_row
  own_in a count h = rw (eq-eqb (state_row rows a) s h)

  pub own_skip : (d a count : ℕ) → d ≤ count → Not a (a + d) → own s (tr_rows rows masks a count) ≡ own s (tr_rows rows masks (a + d) (count - d))
  own_skip zero a count h others =
      let e : a ≡ a + 0 = omega arith in
      let n : count ≡ count - 0 = omega arith in
      ap₂ (λ (i k : ℕ). own s (tr_rows rows masks i k)) e n
  own_skip (suc d) a zero h others = absurd (omega arith)
  own_skip (suc d) a (suc count) h others =
      let e : a + 1 + d ≡ a + suc d = omega arith in
      let n : count - d ≡ suc count - suc d = omega arith in
      own_out a count (others a (omega arith) (omega arith))
      ∙ own_skip d (a + 1) count (omega arith) (λ j le lt. others j (omega arith) (omega arith))
      ∙ ap₂ (λ (i k : ℕ). own s (tr_rows rows masks i k)) e n

  pub rows_none : (a count : ℕ) → Not a (a + count) → own s (tr_rows rows masks a count) ≡ []
  unfolding tr_rows records_from
  rows_none a count others =
      let n : count - count ≡ 0 = omega arith in
      own_skip count a count (omega arith) others ∙ ap (λ (k : ℕ). own s (tr_rows rows masks (a + count) k)) n

  module _ (c : ℕ) where
    take-first : (b : Bool) (i : ℕ) (o : Option (ℕ × ℕ)) (p : Option ℕ) → o ≡ map_o (pair_row rows) p → cond b (some (pair_row rows i)) o ≡ map_o (pair_row rows) (cond b (some i) p)
    take-first true i o p e = refl
    take-first false i o p e = e

    choose_run : (d a count : ℕ) → d ≤ count → ((j : ℕ) → a ≤ j → j < a + d → state_row rows j ≡ s) → Not (a + d) (a + count)
        → choose c (own s (tr_rows rows masks a count)) ≡ map_o (pair_row rows) (row_with masks c a d)
    unfolding row_with
    choose_run zero a count h all others = ap (choose c) (rows_none a count (λ j le lt. others j (omega arith) lt))
    choose_run (suc d) a zero h all others = absurd (omega arith)
    choose_run (suc d) a (suc count) h all others =
        ap (choose c) (own_in a count (all a (omega arith) (omega arith)))
        ∙ take-first (has (get_or masks a 0) c) a (choose c (own s (tr_rows rows masks (a + 1) count))) (row_with masks c (suc a) d)
        (choose_run d (a + 1) count (omega arith) (λ j le lt. all j (omega arith) (omega arith)) (λ j le lt. others j (omega arith) (omega arith))
        ∙ ap (λ (i : ℕ). map_o (pair_row rows) (row_with masks c i d)) (add-one a))

    -- all rows of a table whose states do not fall
    pub choose-rows : (total : ℕ) → Rising (state_row rows) total
        → choose c (own s (tr_rows rows masks 0 total)) ≡ map_o (pair_row rows) (row_with masks c (rows_below rows s total) (rows_below rows (s + 1) total - rows_below rows s total))
    choose-rows total r =
        let f : ℕ = rows_below rows s total in
        let g : ℕ = rows_below rows (s + 1) total in
        let from = below_splits rows s total r in
        let to = below_splits rows (s + 1) total r in
        let up = from.within in
        let top = to.within in
        let z : 0 + f ≡ f = omega arith in
        ap (choose c) (own_skip f 0 total up (λ j le lt e. omega (arith, from.low j (omega arith))) ∙ ap (λ (i : ℕ). own s (tr_rows rows masks i (total - f))) z)
        ∙ choose_run (g - f) f (total - f) (omega arith) (λ j le lt. omega (arith, from.high j le (omega arith), to.low j (omega arith)))
        (λ j le lt e. omega (arith, to.high j (omega arith) (omega arith)))
