-- The records of a pair, choice by choice: the two rows picked at the least choice that is left give one record, and their common choices go.
-- The walk from all common choices comes to the pair's definition. Assumes nothing.
use mathlib.Core.Path.{◌≡◌, refl, sym, ap, ap₂, ◌∙◌}
use mathlib.Core.Bool.{Bool, true, false, false≢true}
use mathlib.Core.Logic.{◌⊎◌, inl, inr}
use mathlib.Core.List.{List, [], ◌∷◌, ◌++◌}
use Prim.Native.Nat.{ℕ, zero, suc, ◌+◌, ◌-◌, ◌<◌, max}
use native.Mathlib.Nat.{sub_self}
use native.Mathlib.Numerals.{add-one}
use native.Mathlib.Omega.{arith}
use lib.Bits.{bit_and, bit_xor, bit_or}
use lib.Dec.{eqb}
use lib.IntN.{ℤ}
use lib.ListN.{get_or}
use borrow.Author.Tests.{ne_eqb}
use Rattle.std.specs.Prelude.{Option, Some, None}
use Rattle.amplitude.specs.Amp.{Amp}
use Rattle.amplitude.specs.Leaf.{Leaf, leaf}
use Rattle.automata.specs.Choice.{least, Alt, alt, map_alt, together}
use Rattle.automata.specs.Sets.{rec, LF}
use Rattle.stored.specs.Fields.{records_from}
use Rattle.gates.specs.Roles.{pair_end}
use Rattle.gates.specs.Numbering as numbering
use Rattle.lookup.specs.Lookup.{union_of, leaf_of}
use Rattle.leafrows.specs.declared.Amplitude.{Amplitude}
use Rattle.leafrows.specs.Value.{Tested}
use Rattle.stepwise.specs.Meet.{union, pick, joined, mask_of_joined, meet_left}
use Rattle.stepwise.proofs.MeetLaws.{meet_exact}
use Rattle.endrow.specs.declared.NewLeaves.{NewLeaves}
use Rattle.lookup.specs.Alts.{leaf_alts}
use Rattle.endrow.specs.Ended.{EndedIn}
use Rattle.endrow.specs.Leaf.{leaf_amp, pair_amp}
use Rattle.roles.specs.declared.Side.{Side}
use Rattle.roles.specs.declared.Side.TheVariants.{L, R}
use Rattle.roles.specs.Kept.{side_is}
use Rattle.pairing.specs.declared.Meeting.{Meeting}
use Rattle.pairing.specs.Meetings.{row_alt, row_alts, Picked, Met}
use Rattle.pairing.proofs.Rows.{mapped, pick-map}
use Rattle.ending.specs.Source.{Leaves, Distinct}
use Rattle.ending.proofs.Steps.{OnTheWay, way_on, way_end, way_over}
use Rattle.ending.proofs.Singles.{Adds, leaf-is}

-- one step of the walk along the choices left
module _ {X Y Z : Type 0} (f : X → Y → Z) (dx : Alt X) (dy : Alt Y) where
  meet_on : (steps left : ℕ) (us : List (Alt X)) (vs : List (Alt Y)) (a : Alt X) (b : Alt Y) → 0 < left → pick dx (least left) us ≡ a → pick dy (least left) vs ≡ b
      → meet_left f dx dy (suc steps) left us vs ≡ joined f dx dy a b ∷ meet_left f dx dy steps (bit_xor left (mask_of_joined f dx dy a b)) us vs
  unfolding meet_left
  meet_on steps left us vs a b h u v = go (eqb left 0) (ne_eqb left 0 (λ z. omega arith)) ∙ ap₂ one u v
    where
      one : Alt X → Alt Y → List (Alt Z)
      one c d = joined f dx dy c d ∷ meet_left f dx dy steps (bit_xor left (mask_of_joined f dx dy c d)) us vs

      go : (t : Bool) → t ≡ false → elim t [ true ↦ [] | false ↦ one (pick dx (least left) us) (pick dy (least left) vs) ] ≡ one (pick dx (least left) us) (pick dy (least left) vs)
      go true e = absurd (false≢true (sym e))
      go false e = refl

max_self : (k : ℕ) → max k k ≡ k
max_self k = omega arith

-- "Leaves A, B give A+B under L, A−B under R. k grows by one."
pair-leaf : (side : Side) (k : ℕ) (x y : Amp) → pair_end (side_is side) (leaf k x) (leaf k y) ≡ leaf (k + 1) (pair_amp (side_is side) x y)
pair-leaf L k x y = rw (max_self k, sub_self k, add-one)
pair-leaf R k x y = rw (max_self k, sub_self k, add-one)

module _ (src choices : List ℕ) (numbers : List ℤ) where
  -- row i as an alternative
  abbrev pub leaf_alt : ℕ → Alt Leaf
  leaf_alt i = alt (get_or choices i 0) (leaf_of src numbers i)

  leaves-taken : (from count : ℕ) → leaf_alts src choices numbers from count ≡ map_alt (leaf_of src numbers) (row_alts choices from count)
  unfolding leaf_alts records_from
  leaves-taken from zero = refl
  leaves-taken from (suc count) = ap (λ (us : List (Alt Leaf)). leaf_alt from ∷ us) (leaves-taken (from + 1) count)

  leaf-picked : (from count c i : ℕ) → pick (row_alt choices from) c (row_alts choices from count) ≡ row_alt choices i → pick (leaf_alt from) c (leaf_alts src choices numbers from count) ≡ leaf_alt i
  leaf-picked from count c i e =
      ap (pick (leaf_alt from) c) (leaves-taken from count) ∙ pick-map (leaf_of src numbers) (row_alt choices from) c (row_alts choices from count) ∙ ap (mapped (leaf_of src numbers)) e

  leaves-union : (from count : ℕ) → union (leaf_alts src choices numbers from count) ≡ union_of choices from count
  unfolding leaf_alts records_from union_of
  leaves-union from zero = refl
  leaves-union from (suc count) = ap (bit_or (get_or choices from 0)) (leaves-union (from + 1) count ∙ rw add-one)

module _ (src choices : List ℕ) (numbers : List ℤ) (qfrom qto pfrom pto : ℕ) (side : Side) (state : ℕ) where
  -- the records of the choices left
  abbrev pub pair_left : ℕ → ℕ → List LF
  pair_left steps left =
      numbering.rows state (meet_left (pair_end (side_is side)) (leaf_alt src choices numbers qfrom) (leaf_alt src choices numbers pfrom) steps left (leaf_alts src choices numbers qfrom (qto - qfrom)) (leaf_alts src choices numbers pfrom (pto - pfrom)))

  -- those of all choices that both states have
  abbrev pub pair_all : List LF
  pair_all = numbering.rows state (together (pair_end (side_is side)) (leaf_alts src choices numbers qfrom (qto - qfrom)) (leaf_alts src choices numbers pfrom (pto - pfrom)))

  pub pair-begin : Distinct (leaf_alts src choices numbers qfrom (qto - qfrom)) → Distinct (leaf_alts src choices numbers pfrom (pto - pfrom))
      → pair_left 32 (bit_and (union_of choices qfrom (qto - qfrom)) (union_of choices pfrom (pto - pfrom))) ≡ pair_all
  pair-begin a b =
      ap₂ (λ (m n : ℕ). pair_left 32 (bit_and m n)) (sym (leaves-union src choices numbers qfrom (qto - qfrom))) (sym (leaves-union src choices numbers pfrom (pto - pfrom)))
      ∙ ap (numbering.rows state)
      (meet_exact (pair_end (side_is side)) (leaf_alts src choices numbers qfrom (qto - qfrom)) (leaf_alts src choices numbers pfrom (pto - pfrom)) a.masked b.masked a.disjoint b.disjoint (leaf_alt src choices numbers qfrom) (leaf_alt src choices numbers pfrom))

  none_left : (steps : ℕ) → pair_left steps 0 ≡ []
  unfolding meet_left
  none_left zero = refl
  none_left (suc steps) = refl

  no_steps : (left : ℕ) → pair_left 0 left ≡ []
  unfolding meet_left
  no_steps left = refl

  module _ {k : ℕ} (hq : Leaves src choices numbers k qfrom qto) (hp : Leaves src choices numbers k pfrom pto) where
    -- the least choice left
    left_one : (steps left i j : ℕ) → 0 < steps → 0 < left → Picked choices qfrom qto (least left) i → Picked choices pfrom pto (least left) j
        → pair_left steps left
        ≡ (rec state (bit_and (get_or choices i 0) (get_or choices j 0)) (leaf (k + 1) (pair_amp (side_is side) (leaf_amp src numbers i) (leaf_amp src numbers j))) ∷ [])
        ++ pair_left (steps - 1) (bit_xor left (bit_and (get_or choices i 0) (get_or choices j 0)))
    left_one steps left i j a b q p =
        let e : steps ≡ suc (steps - 1) = omega arith in
        let u = leaf-picked src choices numbers qfrom (qto - qfrom) (least left) i q.is in
        let v = leaf-picked src choices numbers pfrom (pto - pfrom) (least left) j p.is in
        let y : pair_end (side_is side) (leaf_of src numbers i) (leaf_of src numbers j) ≡ leaf (k + 1) (pair_amp (side_is side) (leaf_amp src numbers i) (leaf_amp src numbers j)) =
        ap₂ (pair_end (side_is side)) (leaf-is hq i q.after q.before) (leaf-is hp j p.after p.before) ∙ pair-leaf side k (leaf_amp src numbers i) (leaf_amp src numbers j) in
        ap (λ (s : ℕ). pair_left s left) e
        ∙ ap (numbering.rows state) (meet_on (pair_end (side_is side)) (leaf_alt src choices numbers qfrom) (leaf_alt src choices numbers pfrom) (steps - 1) left (leaf_alts src choices numbers qfrom (qto - qfrom)) (leaf_alts src choices numbers pfrom (pto - pfrom)) (leaf_alt src choices numbers i) (leaf_alt src choices numbers j) b u v)
        ∙ ap (λ (z : Leaf). rec state (bit_and (get_or choices i 0) (get_or choices j 0)) z ∷ pair_left (steps - 1) (bit_xor left (bit_and (get_or choices i 0) (get_or choices j 0)))) y

    module _ {v w : NewLeaves} {E : List LF} (steps left : ℕ) (o : OnTheWay v E (pair_left steps left) w) where
      module _ {m : Meeting} (some : left ≡ 0 → ⊥) (more : 0 < steps) (met : Met choices qfrom qto pfrom pto left m) where
        abbrev amp_here : Amp
        amp_here = pair_amp (side_is side) (leaf_amp src numbers m.i) (leaf_amp src numbers m.j)

        way : OnTheWay v E ((rec state m.mask (leaf (k + 1) amp_here) ∷ []) ++ pair_left (steps - 1) (bit_xor left m.mask)) w
        way = rw (left_one steps left m.i m.j more (omega arith) met.one met.other, ← met.shared) at o

        module _ {z : NewLeaves} {x : Option Amplitude} (t : Tested amp_here x) where
          pub pair_on : Adds w state m.mask (k + 1) x z (Some tt) → OnTheWay v E (pair_left (steps - 1) (bit_xor left m.mask)) z
          pair_on s = way_on way (s amp_here t)

          pub pair-over : Adds w state m.mask (k + 1) x z None → EndedIn v E z None
          pair-over s = way_over (pair_left (steps - 1) (bit_xor left m.mask)) way (s amp_here t)

      -- no choice is left, or no step
      pub pair_end_lem : (left ≡ 0) ⊎ (steps ≡ 0) → EndedIn v E w (Some tt)
      pair_end_lem (inl z) = way_end (rw (z, none_left) at o)
      pair_end_lem (inr z) = way_end (rw (z, no_steps) at o)
