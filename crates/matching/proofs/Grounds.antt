-- In slices that hold a well-formed set, the states of a level have rows whose children are states of the next level, and those of the last
-- level have leaves that can be read. Assumes nothing.
use mathlib.Core.Path.{◌≡◌, refl, sym, ap, ◌∙◌, subst}
use mathlib.Core.Bool.{Bool, true, false}
use mathlib.Core.List.{List}
use mathlib.Core.Option.{Option, none, some}
use Prim.Native.Nat.{ℕ, suc, ◌+◌, ◌-◌, ◌<◌, ◌≤◌}
use native.Mathlib.Omega.{arith}
use lib.Dec.{leb}
use lib.IntN.{ℤ}
use lib.ListN.{length, get_or, take}
use borrow.Author.Tests.{leb-true, leb-false}
use Rattle.automata.specs.Choice.{map_o, choose}
use Rattle.automata.specs.Sets.{QSet, sum}
use Rattle.stored.specs.Rules.{level_of}
use Rattle.stored.proofs.WellFormed.{FineLF, lfs_fine, state_small}
use Rattle.tables.specs.Table.{tr_row, lf_row, table_set}
use Rattle.tables.specs.States.{state_row}
use Rattle.tables.proofs.Beginnings.{below_splits}
use Rattle.tables.proofs.Ordered.{formed-rises}
use Rattle.lookup.specs.Lookup.{transition_row, pair_row}
use Rattle.lookup.specs.Alts.{alts_from, moves_in}
use Rattle.lookup.proofs.Finding.{rising, begin, end, rows-there, scan_hits}
use Rattle.oldleaves.proofs.OldLeaves.{tr-at, lf_at, leaf_state}
use Rattle.stepping.proofs.Answers.{choose-rows}
use Rattle.stepping.specs.Step.{Kin, Inner}
use Rattle.fitting.specs.Fit.{Leafy}
use Rattle.matching.specs.Levels.{start_of, Among}
use Rattle.matching.specs.Seeking.{Held}
use Rattle.matching.proofs.LevelLaws.{start-take, start-most, level-at, level_tells}

module _ {rows masks : List ℕ} {coefs : List ℤ} {counts first : List ℕ} {n : ℕ} (h : Held rows masks coefs counts first n) where
  counts-are : take (h.set.n + 1) counts ≡ h.set.counts
  unfolding table_set
  counts-are = ap (λ (T : QSet). T.counts) h.unpacked.holds.is

  pub start_is : (at : ℕ) → at ≤ suc n → start_of h.set.counts at ≡ start_of counts at
  start_is at le = ap (λ (cs : List ℕ). start_of cs at) (sym counts-are) ∙ start-take (h.set.n + 1) counts at (omega (arith, h.qubits))

  pub level_of_lem : (at s : ℕ) → at ≤ n → Among counts at s → level_of h.set s ≡ suc at
  level_of_lem at s le a =
      let e : 1 + at ≡ suc at = omega arith in
      level-at 1 h.set.counts at s (omega (arith, h.formed.counted, h.qubits)) (omega (arith, a.after, start_is at (omega arith))) (omega (arith, a.before, start_is (suc at) (omega arith))) ∙ e

  pub in_level : (at s : ℕ) → at ≤ n → level_of h.set s ≡ suc at → Among counts at s
  in_level at s le e =
      let r = level_tells 1 h.set.counts at s (omega (arith, h.formed.counted, h.qubits)) (omega arith) in
      record { after = omega (arith, r.after, start_is at (omega arith)); before = omega (arith, r.before, start_is (suc at) (omega arith)) }

  pub starts-small : (at : ℕ) → at ≤ suc n → start_of counts at < 65536
  starts-small at le = omega (arith, start_is at le, start-most h.set.counts at, h.formed.states, h.few)

  pub level-there : (at : ℕ) → at ≤ n → at < length counts
  level-there at le = omega (arith, h.roomy.levels, h.qubits)

  module _ (at s : ℕ) (less : at < n) (a : Among counts at s) where
    level : level_of h.set s ≡ suc at
    level = level_of_lem at s (omega arith) a

    there : s < sum h.set.counts
    there = state_small h.bounds h.set h.formed s (omega (arith, level, h.qubits))

    abbrev total : ℕ
    total = length h.set.inner + length h.set.leaves

    module _ (i : ℕ) (lo : get_or first s 0 ≤ i) (hi : i < get_or first (s + 1) 0) where
      within : i < total
      within = omega (arith, rows-there h.unpacked.holds (formed-rises h.bounds h.set h.formed) s there)

      state : state_row rows i ≡ s
      state =
          let r = formed-rises h.bounds h.set h.formed in
          let from = begin h.unpacked.holds r s there in
          let to = end h.unpacked.holds r s there in
          let rise = rising h.unpacked.holds r s there in
          omega (arith, (below_splits rows s total rise).high i (omega arith) within, (below_splits rows (s + 1) total rise).low i (omega arith))

      -- a row of the last part is a leaf's, whose state is on the last level
      leaf-level : (j : ℕ) → j < length h.set.leaves → level_of h.set (state_row rows (length h.set.inner + j)) ≡ suc h.set.n
      unfolding lf_row
      leaf-level j lt = (lf_at h.formed h.unpacked h.roomy (FineLF h.set) (lfs_fine h.bounds h.set h.formed) j lt).state

      inner-row : i < length h.set.inner
      inner-row = go (leb (length h.set.inner) i) refl
        where
          go : (b : Bool) → leb (length h.set.inner) i ≡ b → i < length h.set.inner
          go false e = omega (arith, leb-false (length h.set.inner) i e)
          go true e =
              let le = leb-true (length h.set.inner) i e in
              let w = within in
              let at_i : length h.set.inner + (i - length h.set.inner) ≡ i = omega arith in
              absurd (omega (arith, leaf-level (i - length h.set.inner) (omega arith), ap (λ (j : ℕ). level_of h.set (state_row rows j)) at_i, ap (level_of h.set) state, level, h.qubits))

      left-level : level_of h.set (pair_row rows i).0 ≡ suc (level_of h.set (state_row rows i))
      unfolding tr_row
      left-level = (tr-at h.formed h.unpacked h.roomy i inner-row).left

      right-level : level_of h.set (pair_row rows i).1 ≡ suc (level_of h.set (state_row rows i))
      unfolding tr_row
      right-level = (tr-at h.formed h.unpacked h.roomy i inner-row).right

      above : suc (level_of h.set (state_row rows i)) ≡ suc (suc at)
      above = ap suc (ap (level_of h.set) state ∙ level)

      kin : Kin rows i (start_of counts (suc at)) (start_of counts (suc (suc at)))
      kin =
          let l = in_level (suc at) (pair_row rows i).0 less (left-level ∙ above) in
          let r = in_level (suc at) (pair_row rows i).1 less (right-level ∙ above) in
          record { wide = omega (arith, h.roomy.table.wide, inner-row); left = l.after; left_to = l.before; right = r.after; right_to = r.before }

    pub inner : Inner rows masks first s (start_of counts (suc at)) (start_of counts (suc (suc at)))
    inner = record {
      begun = omega (arith, there, h.roomy.begins);
      long = omega (arith, rows-there h.unpacked.holds (formed-rises h.bounds h.set h.formed) s there, h.roomy.table.long);
      each = kin;
    }

  -- both children of a state stand on the next level
  pub chosen : (at s c : ℕ) → at < n → Among counts at s → (p : ℕ × ℕ) → choose c (moves_in rows masks first s) ≡ some p → Among counts (suc at) p.0 × Among counts (suc at) p.1
  unfolding alts_from
  chosen at s c less a p e =
      go (transition_row masks first s c) refl (sym (choose-rows (pair_row rows) masks c (get_or first s 0) (get_or first (s + 1) 0 - get_or first s 0)) ∙ e)
    where
      go : (o : Option ℕ) → transition_row masks first s c ≡ o → map_o (pair_row rows) o ≡ some p → Among counts (suc at) p.0 × Among counts (suc at) p.1
      go none f g = let z : ◌≡◌ {A = ℕ} 0 1 = cc in absurd (omega arith)
      go (some i) f g =
          let hit = scan_hits masks c (get_or first s 0) (get_or first (s + 1) 0 - get_or first s 0) i f in
          let k = (inner at s less a).each i hit.after (omega (arith, hit.after, hit.before)) in
          let q : pair_row rows i ≡ p = cc in
          subst (λ (x : ℕ × ℕ). Among counts (suc at) x.0 × Among counts (suc at) x.1) q (record { after = k.left; before = k.left_to }, record { after = k.right; before = k.right_to })

  pub leafy : (s : ℕ) → Among counts n s → Leafy rows masks coefs first s
  leafy s a =
      let e : level_of h.set s ≡ suc h.set.n = level_of_lem n s (omega arith) a ∙ ap suc h.qubits in
      let l = leaf_state h.formed h.unpacked h.roomy s e in
      record {
        begun = l.begun;
        long = l.leaves.long;
        each = λ i lo hi.
            let r = l.leaves.each i lo hi in
            record { wide = r.wide; deep = r.deep; range = r.range; scale = omega (arith, l.leaves.one i lo hi, h.formed.k_few) };
      }
