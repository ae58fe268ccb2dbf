-- In slices that hold a well-formed set, the rows of a state of the leaf level can be read as its leaves. Assumes nothing.
use mathlib.Core.Path.{◌≡◌, refl, sym, ap, ◌∙◌, subst}
use mathlib.Core.Bool.{Bool, true, false}
use mathlib.Core.List.{List}
use Prim.Native.Nat.{ℕ, zero, suc, ◌+◌, ◌-◌, ◌*◌, ◌<◌, ◌≤◌}
use native.Mathlib.Omega.{arith}
use lib.Dec.{leb}
use lib.IntN.{ℤ}
use lib.ListN.{length, get_or}
use borrow.Author.Tests.{leb-true, leb-false}
use Rattle.amplitude.specs.Amp.{in_range_a}
use Rattle.automata.specs.Sets.{QSet, LF, sum}
use Rattle.automata.proofs.Choosing.{Disjoint}
use Rattle.automata.proofs.Order.{Masked}
use Rattle.automata.proofs.Lists.{Each}
use Rattle.stored.specs.Fields.{records_from}
use Rattle.stored.specs.Rules.{Bounds, level_of}
use Rattle.stored.proofs.WellFormed.{WellFormed, FineTR, FineLF, k_in, trs_fine, lfs_fine, state_small}
use Rattle.gates.proofs.WellBuilt.{own-masked, lf_masks_lem, valid}
use Rattle.tables.specs.Table.{row_width, tr_row, lf_row, leaf_row, tr_rows, lf_rows, rows_below, table_set}
use Rattle.tables.specs.States.{state_row}
use Rattle.tables.specs.Ready.{Roomy, Unpacked}
use Rattle.tables.proofs.Beginnings.{Split, below_splits}
use Rattle.tables.proofs.Ordered.{formed-rises}
use Rattle.lookup.specs.Lookup.{pair_row}
use Rattle.lookup.proofs.Finding.{rising, begin, end, rows-there}
use Rattle.lookup.proofs.AltsLaws.{leaf_alts_lem}
use Rattle.oldleaves.specs.Leaf.{leaf_amp, Readable}
use Rattle.oldleaves.specs.Source.{LeafState}

each_record : {X : Type 0} (P : X → Type 0) (f : ℕ → X) (from count : ℕ) → Each P (records_from f from 1 count) → (i : ℕ) → i < count → P (f (from + i))
unfolding records_from
each_record P f from zero h i lt = absurd (omega arith)
each_record P f from (suc count) h zero lt = let e : from + 0 ≡ from = omega arith in rw e h.0
each_record P f from (suc count) h (suc i) lt = let e : from + suc i ≡ from + 1 + i = omega arith in rw e (each_record P f (from + 1) count h.1 i (omega arith))

module _ {b : Bounds} {Q : QSet} (w : WellFormed b Q) {rows masks : List ℕ} {coefs : List ℤ} {counts first : List ℕ} (u : Unpacked rows masks coefs counts first Q)
    (room : Roomy rows masks coefs counts first Q.n (sum Q.counts) (length Q.inner) (length Q.leaves)) where
  pub tr-at : (i : ℕ) → i < length Q.inner → FineTR Q (tr_row rows masks i)
  unfolding table_set tr_rows
  tr-at i lt =
      let e : 0 + i ≡ i = omega arith in
      subst (λ (j : ℕ). FineTR Q (tr_row rows masks j)) e
      (each_record (FineTR Q) (tr_row rows masks) 0 (length Q.inner) (subst (Each (FineTR Q)) (sym (ap (λ (T : QSet). T.inner) u.holds.is)) (trs_fine b Q w)) i lt)

  leaves-are : Q.leaves ≡ lf_rows rows masks coefs (length Q.inner) (length Q.leaves)
  unfolding table_set
  leaves-are = sym (ap (λ (T : QSet). T.leaves) u.holds.is)

  pub lf_at : (P : LF → Type 0) → Each P Q.leaves → (j : ℕ) → j < length Q.leaves → P (lf_row rows masks coefs (length Q.inner + j))
  unfolding lf_rows
  lf_at P h j lt = each_record P (lf_row rows masks coefs) (length Q.inner) (length Q.leaves) (subst (Each P) leaves-are h) j lt

  tr-level : (i : ℕ) → i < length Q.inner → level_of Q (state_row rows i) ≤ Q.n
  unfolding tr_row
  tr-level i lt = (tr-at i lt).state

  -- leaf row i names the row of its own number, within range, at the set's k
  module _ (i : ℕ) (lo : length Q.inner ≤ i) (hi : i < length Q.inner + length Q.leaves) where
    abbrev pub number : ℕ
    number = i - length Q.inner

    here : length Q.inner + number ≡ i
    here = omega arith

    few : number < length Q.leaves
    few = omega arith

    pub names : (pair_row rows i).0 ≡ number
    names = ap (λ (j : ℕ). get_or rows (j * row_width + 1) 0) (sym here) ∙ u.numbered number few

    range_at : in_range_a (leaf_amp rows coefs (length Q.inner + number)) ≡ true
    unfolding lf_row leaf_row
    range_at = (lf_at (FineLF Q) (lfs_fine b Q w) number few).range

    k-at : (pair_row rows (length Q.inner + number)).1 ≡ Q.k
    unfolding lf_row leaf_row
    k-at = lf_at (λ l. k_in l ≡ Q.k) w.one_k number few

    pub readable : Readable rows coefs i
    readable = record {
      wide = omega (arith, room.table.wide);
      deep = omega (arith, names, few, room.amplitudes);
      range = subst (λ (j : ℕ). in_range_a (leaf_amp rows coefs j) ≡ true) here range_at;
    }

    pub one-k : (pair_row rows i).1 ≡ Q.k
    one-k = subst (λ (j : ℕ). (pair_row rows j).1 ≡ Q.k) here k-at

  module _ (q : ℕ) (there : q < sum Q.counts) where
    pub rows-rise : get_or first q 0 ≤ get_or first (q + 1) 0
    rows-rise =
        let r = formed-rises b Q w in
        let from = begin u.holds r q there in
        let to = end u.holds r q there in
        let rise = rising u.holds r q there in
        let all = below_splits rows (q + 1) (length Q.inner + length Q.leaves) rise in
        let low = below_splits rows q (length Q.inner + length Q.leaves) rise in
        go (leb (get_or first q 0) (get_or first (q + 1) 0)) refl all low from to
      where
        go : (c : Bool) → leb (get_or first q 0) (get_or first (q + 1) 0) ≡ c → Split rows (q + 1) (length Q.inner + length Q.leaves) (rows_below rows (q + 1) (length Q.inner + length Q.leaves))
            → Split rows q (length Q.inner + length Q.leaves) (rows_below rows q (length Q.inner + length Q.leaves))
            → get_or first q 0 ≡ rows_below rows q (length Q.inner + length Q.leaves) → get_or first (q + 1) 0 ≡ rows_below rows (q + 1) (length Q.inner + length Q.leaves)
            → get_or first q 0 ≤ get_or first (q + 1) 0
        go true e all low from to = leb-true (get_or first q 0) (get_or first (q + 1) 0) e
        go false e all low from to =
            let f = leb-false (get_or first q 0) (get_or first (q + 1) 0) e in
            absurd (omega (arith, low.low (get_or first (q + 1) 0) (omega arith), all.high (get_or first (q + 1) 0) (omega arith) (omega (arith, low.within)), f, from, to))

  module _ (q : ℕ) (at : level_of Q q ≡ suc Q.n) where
    there : q < sum Q.counts
    there = state_small b Q w q (omega arith)

    -- a row of the state is a leaf's
    pub leaf_of : (i : ℕ) → get_or first q 0 ≤ i → i < get_or first (q + 1) 0 → (length Q.inner ≤ i) × (i < length Q.inner + length Q.leaves)
    leaf_of i lo hi =
        let r = formed-rises b Q w in
        let from = begin u.holds r q there in
        let to = end u.holds r q there in
        let rise = rising u.holds r q there in
        let all = below_splits rows (q + 1) (length Q.inner + length Q.leaves) rise in
        let low = below_splits rows q (length Q.inner + length Q.leaves) rise in
        let within : i < length Q.inner + length Q.leaves = omega (arith, all.within) in
        let state : state_row rows i ≡ q = omega (arith, low.high i (omega arith) within, all.low i (omega arith)) in
        (go (leb (length Q.inner) i) refl state, within)
      where
        go : (c : Bool) → leb (length Q.inner) i ≡ c → state_row rows i ≡ q → length Q.inner ≤ i
        go true e s = leb-true (length Q.inner) i e
        go false e s = absurd (omega (arith, tr-level i (omega (arith, leb-false (length Q.inner) i e)), ap (level_of Q) s))

    pub leaf_state : LeafState rows masks coefs first Q.k q
    leaf_state =
        let r = formed-rises b Q w in
        let end-there : get_or first (q + 1) 0 ≤ length Q.inner + length Q.leaves = rows-there u.holds r q there in
        record {
          begun = omega (arith, there, room.begins);
          leaves = record {
            rises = rows-rise q there;
            long = omega (arith, end-there, room.table.long);
            each = λ i lo hi. let p = leaf_of i lo hi in readable i p.0 p.1;
            one = λ i lo hi. let p = leaf_of i lo hi in one-k i p.0 p.1;
          };
          distinct = record {
            masked = subst Masked (leaf_alts_lem w u.holds q at) (own-masked q Q.leaves (lf_masks_lem b Q w));
            disjoint = subst Disjoint (leaf_alts_lem w u.holds q at) ((valid b Q w).ends q);
          };
        }
