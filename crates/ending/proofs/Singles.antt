-- The records of rows walked one by one: the row at hand gives one record, and the rest is that of the rows behind it. Assumes nothing.
use mathlib.Core.Path.{◌≡◌, ap, ◌∙◌}
use mathlib.Core.List.{List, [], ◌∷◌, ◌++◌}
use Prim.Native.Nat.{ℕ, suc, ◌+◌, ◌-◌, ◌<◌, ◌≤◌}
use native.Mathlib.Omega.{arith}
use lib.IntN.{ℤ}
use lib.ListN.{get_or}
use Rattle.std.specs.Prelude.{Option, Some, None}
use Rattle.amplitude.specs.Amp.{Amp, ω^}
use Rattle.amplitude.specs.Leaf.{Leaf, leaf, turn}
use Rattle.automata.specs.Choice.{map_alt}
use Rattle.automata.specs.Sets.{rec, LF}
use Rattle.stored.specs.Fields.{records_from}
use Rattle.gates.specs.Numbering as numbering
use Rattle.lookup.specs.Lookup.{leaf_of}
use Rattle.leafrows.specs.declared.Amplitude.{Amplitude}
use Rattle.leafrows.specs.Value.{Tested}
use Rattle.leafrows.proofs.Rows.{row-leaf}
use Rattle.endrow.specs.declared.NewLeaves.{NewLeaves}
use Rattle.lookup.specs.Alts.{leaf_alts}
use Rattle.endrow.specs.Ended.{EndedIn}
use Rattle.endrow.specs.Leaf.{leaf_amp}
use Rattle.ending.specs.Source.{Leaves}
use Rattle.ending.proofs.Steps.{OnTheWay, way_on, way_end, way_over}

-- a step that adds one record with an amplitude that was tested
abbrev pub Adds : NewLeaves → ℕ → ℕ → ℕ → Option Amplitude → NewLeaves → Option Unit → Type 0
Adds v state mask k x w r = (y : Amp) → Tested y x → EndedIn v (rec state mask (leaf k y) ∷ []) w r

module _ {src choices : List ℕ} {numbers : List ℤ} {k from to : ℕ} (h : Leaves src choices numbers k from to) where
  -- the leaf of a row is what the row names, at the one k
  pub leaf-is : (i : ℕ) → from ≤ i → i < to → leaf_of src numbers i ≡ leaf k (leaf_amp src numbers i)
  leaf-is i a b = row-leaf numbers _ _ ∙ ap (λ (j : ℕ). leaf j (leaf_amp src numbers i)) (h.one i a b)

  module _ (shift state : ℕ) where
    -- the records of the rows from i on
    abbrev pub left : ℕ → List LF
    left i = numbering.rows state (map_alt (turn shift) (leaf_alts src choices numbers i (to - i)))

    left_one : (i : ℕ) → from ≤ i → i < to → left i ≡ (rec state (get_or choices i 0) (leaf k (ω^ shift (leaf_amp src numbers i))) ∷ []) ++ left (i + 1)
    unfolding leaf_alts records_from
    left_one i a b =
        let e : to - i ≡ suc (to - (i + 1)) = omega arith in
        ap (λ (n : ℕ). numbering.rows state (map_alt (turn shift) (leaf_alts src choices numbers i n))) e
        ∙ ap (λ (y : Leaf). rec state (get_or choices i 0) (turn shift y) ∷ left (i + 1)) (leaf-is i a b)

    left-none : (i : ℕ) → to ≤ i → left i ≡ []
    unfolding leaf_alts records_from
    left-none i a =
        let e : to - i ≡ 0 = omega arith in
        ap (λ (n : ℕ). numbering.rows state (map_alt (turn shift) (leaf_alts src choices numbers i n))) e

    module _ {v w : NewLeaves} {E : List LF} (i : ℕ) (o : OnTheWay v E (left i) w) where
      module _ {z : NewLeaves} {x : Option Amplitude} (a : from ≤ i) (b : i < to) (t : Tested (ω^ shift (leaf_amp src numbers i)) x) where
        pub single_on : Adds w state (get_or choices i 0) k x z (Some tt) → OnTheWay v E (left (i + 1)) z
        single_on s = way_on (rw (left_one i a b) at o) (s (ω^ shift (leaf_amp src numbers i)) t)

        pub single-over : Adds w state (get_or choices i 0) k x z None → EndedIn v E z None
        single-over s = way_over (left (i + 1)) (rw (left_one i a b) at o) (s (ω^ shift (leaf_amp src numbers i)) t)

      pub single-end : to ≤ i → EndedIn v E w (Some tt)
      single-end e = way_end (rw (left-none i e) at o)
