-- In slices that hold a well-formed set, the rows between two beginnings are the records of one state, in their order. Assumes nothing.
use mathlib.Core.Path.{◌≡◌, refl, sym, ap, ap₂, ◌∙◌}
use mathlib.Core.List.{List, [], ◌∷◌, ◌++◌, append-nil}
use Prim.Native.Nat.{ℕ, zero, suc, ◌+◌, ◌-◌, ◌<◌, ◌≤◌}
use native.Mathlib.Omega.{arith}
use lib.IntN.{ℤ}
use lib.ListN.{length, get_or}
use Rattle.amplitude.specs.Leaf.{Leaf}
use Rattle.automata.specs.Choice.{Alt, alt, map_alt}
use Rattle.automata.specs.Sets.{QSet, sum, own}
use Rattle.automata.proofs.Lists.{each_map}
use Rattle.stored.specs.Fields.{records_from}
use Rattle.stored.specs.Rules.{Bounds, level_of}
use Rattle.stored.proofs.WellFormed.{WellFormed, FineTR, FineLF, trs_fine, lfs_fine, state_small}
use Rattle.tables.specs.Table.{tr_rows, rows_below, Holds}
use Rattle.tables.specs.States.{state_in, state_row, Rising}
use Rattle.tables.proofs.Beginnings.{below_splits}
use Rattle.tables.proofs.Ordered.{formed-rises}
use Rattle.tables.proofs.TableLaws.{named}
use Rattle.lookup.specs.Lookup.{pair_row, leaf_of}
use Rattle.lookup.specs.Alts.{alts_from, moves_in, leaf_alts, ends_in}
use Rattle.lookup.proofs.OwnRows.{own-none, own_in, own_skip, rows_none, Not}
use Rattle.lookup.proofs.Finding.{none_mapped, rising, begin, end, own-all, own-leaves, no_leaf, no_inner}

-- ---- in rows
module _ (rows masks : List ℕ) (s : ℕ) where
  own_run : (d a count : ℕ) → d ≤ count → ((j : ℕ) → a ≤ j → j < a + d → state_row rows j ≡ s) → Not rows masks s (a + d) (a + count)
      → own s (tr_rows rows masks a count) ≡ alts_from rows masks a d
  unfolding alts_from records_from
  own_run zero a count h all others = rows_none rows masks s a count (λ j le lt. others j (omega arith) lt)
  own_run (suc d) a zero h all others = absurd (omega arith)
  own_run (suc d) a (suc count) h all others =
      own_in rows masks s a count (all a (omega arith) (omega arith))
      ∙ ap (λ (us : List (Alt (ℕ × ℕ))). alt (get_or masks a 0) (pair_row rows a) ∷ us)
      (own_run d (a + 1) count (omega arith) (λ j le lt. all j (omega arith) (omega arith)) (λ j le lt. others j (omega arith) (omega arith)))

  own-rows : (total : ℕ) → Rising (state_row rows) total
      → own s (tr_rows rows masks 0 total) ≡ alts_from rows masks (rows_below rows s total) (rows_below rows (s + 1) total - rows_below rows s total)
  own-rows total r =
      let f : ℕ = rows_below rows s total in
      let g : ℕ = rows_below rows (s + 1) total in
      let from = below_splits rows s total r in
      let to = below_splits rows (s + 1) total r in
      let up = from.within in
      let top = to.within in
      let z : 0 + f ≡ f = omega arith in
      own_skip rows masks s f 0 total up (λ j le lt e. omega (arith, from.low j (omega arith)))
      ∙ ap (λ (i : ℕ). own s (tr_rows rows masks i (total - f))) z
      ∙ own_run (g - f) f (total - f) (omega arith) (λ j le lt. omega (arith, from.high j le (omega arith), to.low j (omega arith)))
      (λ j le lt e. omega (arith, to.high j (omega arith) (omega arith)))

map_rows : (rows masks : List ℕ) (coefs : List ℤ) (from count : ℕ) → map_alt (named coefs) (alts_from rows masks from count) ≡ leaf_alts rows masks coefs from count
unfolding alts_from leaf_alts records_from
map_rows rows masks coefs from zero = refl
map_rows rows masks coefs from (suc count) = ap (λ (us : List (Alt Leaf)). alt (get_or masks from 0) (leaf_of rows coefs from) ∷ us) (map_rows rows masks coefs (from + 1) count)

-- ---- in slices that hold a well-formed set
module _ {b : Bounds} {Q : QSet} (w : WellFormed b Q) {rows masks : List ℕ} {coefs : List ℤ} {counts first : List ℕ} (h : Holds rows masks coefs counts first Q) (s : ℕ) where
  -- the rows between two beginnings are those of one state, of either kind
  pub all-rows : s < sum Q.counts → own s (tr_rows rows masks 0 (length Q.inner + length Q.leaves)) ≡ moves_in rows masks first s
  all-rows there =
      let r = formed-rises b Q w in
      own-rows rows masks s (length Q.inner + length Q.leaves) (rising h r s there) ∙ ap₂ (λ (f g : ℕ). alts_from rows masks f (g - f)) (sym (begin h r s there)) (sym (end h r s there))

  -- a state of levels 1 to n has its TR records
  pub inner_alts : level_of Q s ≤ Q.n → own s Q.inner ≡ moves_in rows masks first s
  inner_alts at =
      let there : s < sum Q.counts = state_small b Q w s (omega arith) in
      let r = formed-rises b Q w in
      let none_here : own s Q.leaves ≡ [] = own-none s Q.leaves (each_map (FineLF Q) (λ l. state_in l ≡ s → ⊥) (no_leaf w h s 0 at) Q.leaves (lfs_fine b Q w)) in
      sym (own-all h r s there ∙ ap (λ (us : List (Alt (ℕ × ℕ))). own s Q.inner ++ us) (none_mapped (named coefs) _ (sym (own-leaves h r s there) ∙ none_here)) ∙ append-nil (own s Q.inner))
      ∙ all-rows there

  -- a state of level n+1 has its LF records
  pub leaf_alts_lem : level_of Q s ≡ suc Q.n → own s Q.leaves ≡ ends_in rows masks coefs first s
  leaf_alts_lem at =
      let there : s < sum Q.counts = state_small b Q w s (omega arith) in
      let r = formed-rises b Q w in
      let none_here : own s Q.inner ≡ [] = own-none s Q.inner (each_map (FineTR Q) (λ t. state_in t ≡ s → ⊥) (no_inner w h s 0 at) Q.inner (trs_fine b Q w)) in
      own-leaves h r s there
      ∙ ap (map_alt (named coefs)) (sym (own-all h r s there ∙ ap (λ (us : List (Alt (ℕ × ℕ))). us ++ own s (tr_rows rows masks (length Q.inner) (length Q.leaves))) none_here) ∙ all-rows there)
      ∙ map_rows rows masks coefs (get_or first s 0) (get_or first (s + 1) 0 - get_or first s 0)
