-- A state's rows are its alternatives in their order: the first row is the first alternative, and the union of the rows' masks is the union of theirs.
-- Assumes nothing.
use mathlib.Core.Path.{◌≡◌, refl, sym, ap, ◌∙◌, subst}
use mathlib.Core.List.{List, [], ◌∷◌}
use Prim.Native.Nat.{ℕ, zero, suc, ◌+◌, ◌-◌, ◌<◌, ◌≤◌}
use native.Mathlib.Numerals.{add-one}
use native.Mathlib.Omega.{arith}
use lib.Bits.{bit_or}
use lib.Dec.{eqb}
use lib.ListN.{get_or}
use Rattle.std.specs.Prelude.{Option}
use Rattle.automata.specs.Choice.{Alt, alt, map_alt}
use Rattle.stored.specs.Fields.{records_from}
use Rattle.gates.specs.Roles.{Two}
use Rattle.lookup.specs.Lookup.{union_of, pair_row}
use Rattle.stepwise.specs.Grow.{Level, grow, grow_state}
use Rattle.roles.specs.declared.Kids.{Kids}
use Rattle.roles.specs.Kept.{kids_of}
use Rattle.stepwise.specs.Meet.{union}
use Rattle.growing.specs.declared.Most.{Most}
use Rattle.growing.specs.declared.NewLevel.{NewLevel}
use Rattle.growing.specs.Growing.{Grew}
use Rattle.lookup.specs.Alts.{alts_from}
use Rattle.pairing.specs.Meetings.{alt_row}
use Rattle.moving.specs.Moves.{grow_alt, grow_alts}

module _ (rows masks : List ℕ) where
  pub alts_more : (i to : ℕ) → i < to → alts_from rows masks i (to - i) ≡ alt_row rows masks i ∷ alts_from rows masks (i + 1) (to - (i + 1))
  unfolding alts_from records_from
  alts_more i to h = let e : to - i ≡ suc (to - (i + 1)) = omega arith in ap (records_from (alt_row rows masks) i 1) e

  pub alts_none : (i to : ℕ) → to ≤ i → alts_from rows masks i (to - i) ≡ []
  unfolding alts_from records_from
  alts_none i to h = let e : to - i ≡ 0 = omega arith in ap (records_from (alt_row rows masks) i 1) e

  pub union_alts : (from count : ℕ) → union_of masks from count ≡ union (alts_from rows masks from count)
  unfolding alts_from records_from union_of
  union_alts from zero = refl
  union_alts from (suc count) = ap (λ (i : ℕ). bit_or (get_or masks from 0) (union_of masks i count)) (sym (add-one from)) ∙ ap (bit_or (get_or masks from 0)) (union_alts (from + 1) count)

-- ---- a row's record, and those of the rows after it
pub single-turn : (most : Most) (s : ℕ) (kids : ℕ × ℕ → Two) (rows masks : List ℕ) (i to : ℕ) → i < to → (G : Level ℕ)
    → grow_alts most s (map_alt kids (alts_from rows masks i (to - i))) G
    ≡ grow_alts most s (map_alt kids (alts_from rows masks (i + 1) (to - (i + 1)))) (grow_alt most s (alt (get_or masks i 0) (kids (pair_row rows i))) G)
unfolding grow_state
single-turn most s kids rows masks i to h G = ap (λ (us : List (Alt (ℕ × ℕ))). grow_alts most s (map_alt kids us) G) (alts_more rows masks i to h)

pub single-end : (most : Most) (s : ℕ) (kids : ℕ × ℕ → Two) (rows masks : List ℕ) (i to : ℕ) → to ≤ i → (G : Level ℕ)
    → grow_alts most s (map_alt kids (alts_from rows masks i (to - i))) G ≡ G
unfolding grow_state
single-end most s kids rows masks i to h G = ap (λ (us : List (Alt (ℕ × ℕ))). grow_alts most s (map_alt kids us) G) (alts_none rows masks i to h)

-- a record whose children have the keys of a pair of keys
pub kids-grown : {v : NewLevel} {r : Option Unit} (most : Most) (s m : ℕ) (G : Level ℕ) (p : Two) {k : Kids} → k ≡ kids_of p
    → Grew v r most (grow eqb most.base s m k.left k.right G) → Grew v r most (grow_alt most s (alt m p) G)
kids-grown {v} {r} most s m G p e g =
    subst (λ (x : Kids). Grew v r most (grow eqb most.base s m x.left x.right G)) e g
