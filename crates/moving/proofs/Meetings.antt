-- A pair's records, one for each meeting of two rows: a turn of the loop takes the two rows with the least choice left, as `meet_left` does, and
-- `meet_left` from all shared choices comes to the definition's order. Assumes nothing.
use mathlib.Core.Path.{◌≡◌, refl, sym, ap, ap₂, ◌∙◌}
use mathlib.Core.Bool.{Bool, true, false}
use mathlib.Core.Logic.{◌⊎◌, inl, inr}
use mathlib.Core.List.{List, [], ◌∷◌}
use Prim.Native.Nat.{ℕ, zero, suc, ◌-◌}
use native.Mathlib.Omega.{arith}
use lib.Dec.{eqb}
use lib.Bits.{bit_and, bit_xor}
use borrow.Author.Tests.{ne_eqb, eq-eqb}
use Rattle.automata.specs.Choice.{Alt, alt, least, together}
use Rattle.gates.specs.Roles.{Two}
use Rattle.lookup.specs.Lookup.{union_of, pair_row}
use Rattle.stepwise.specs.Grow.{Level, grow_state}
use Rattle.stepwise.specs.Meet.{pick, joined, mask_of_joined, meet_left}
use Rattle.stepwise.proofs.MeetLaws.{meet_exact}
use Rattle.growing.specs.declared.Most.{Most}
use Rattle.pairing.specs.declared.Meeting.{Meeting}
use Rattle.lookup.specs.Alts.{alts_from}
use Rattle.pairing.specs.Meetings.{alt_row, Met}
use Rattle.pairing.proofs.Rows.{row-picked}
use Rattle.moving.specs.Moves.{grow_alt, grow_alts, State}
use Rattle.moving.proofs.Rows.{union_alts}

module _ (f : ℕ × ℕ → ℕ × ℕ → Two) (rows masks : List ℕ) (qfrom qto pfrom pto : ℕ) where
  abbrev us : List (Alt (ℕ × ℕ))
  us = alts_from rows masks qfrom (qto - qfrom)

  abbrev vs : List (Alt (ℕ × ℕ))
  vs = alts_from rows masks pfrom (pto - pfrom)

  -- the meetings left, with so many steps and choices
  abbrev pub meetings : ℕ → ℕ → List (Alt Two)
  meetings steps left = meet_left f (alt_row rows masks qfrom) (alt_row rows masks pfrom) steps left us vs

  pub meetings_first : {a b : ℕ} → a ≡ union_of masks qfrom (qto - qfrom) → b ≡ union_of masks pfrom (pto - pfrom) → State rows masks qfrom qto → State rows masks pfrom pto
      → meetings 32 (bit_and a b) ≡ together f us vs
  meetings_first ea eb q p =
      ap₂ (λ (a b : ℕ). meetings 32 (bit_and a b)) (ea ∙ union_alts rows masks qfrom (qto - qfrom)) (eb ∙ union_alts rows masks pfrom (pto - pfrom))
      ∙ meet_exact f us vs q.masked p.masked q.disjoint p.disjoint (alt_row rows masks qfrom) (alt_row rows masks pfrom)

  -- a meeting of two alternatives, and those after it
  abbrev after : ℕ → ℕ → Alt (ℕ × ℕ) → Alt (ℕ × ℕ) → List (Alt Two)
  after n left a b =
      joined f (alt_row rows masks qfrom) (alt_row rows masks pfrom) a b
      ∷ meetings n (bit_xor left (mask_of_joined f (alt_row rows masks qfrom) (alt_row rows masks pfrom) a b))

  abbrev here : ℕ → ℕ → List (Alt Two)
  here n left = after n left (pick (alt_row rows masks qfrom) (least left) us) (pick (alt_row rows masks pfrom) (least left) vs)

  meet-by : (n left : ℕ) (b : Bool) → eqb left 0 ≡ b → meetings (suc n) left ≡ elim b [ true ↦ [] | false ↦ here n left ]
  unfolding meet_left
  meet-by n left b e = ap (λ (t : Bool). elim t [ true ↦ [] | false ↦ here n left ]) e

  meet_met : (n left : ℕ) (m : Meeting) → (left ≡ 0 → ⊥) → Met masks qfrom qto pfrom pto left m
      → meetings (suc n) left ≡ alt m.mask (f (pair_row rows m.i) (pair_row rows m.j)) ∷ meetings n (bit_xor left m.mask)
  meet_met n left m some met =
      meet-by n left false (ne_eqb left 0 some)
      ∙ ap₂ (after n left) (row-picked rows masks met.one) (row-picked rows masks met.other)
      ∙ ap (λ (k : ℕ). alt k (f (pair_row rows m.i) (pair_row rows m.j)) ∷ meetings n (bit_xor left k)) (sym met.shared)

  module _ (most : Most) (s : ℕ) where
    pub meetings_turn : (steps left : ℕ) (m : Meeting) → (left ≡ 0 → ⊥) → (steps ≡ 0 → ⊥) → Met masks qfrom qto pfrom pto left m → (G : Level ℕ)
        → grow_alts most s (meetings steps left) G
        ≡ grow_alts most s (meetings (steps - 1) (bit_xor left m.mask)) (grow_alt most s (alt m.mask (f (pair_row rows m.i) (pair_row rows m.j))) G)
    unfolding grow_state
    meetings_turn zero left m some more met G = absurd (more refl)
    meetings_turn (suc n) left m some more met G =
        let one : n ≡ suc n - 1 = omega arith in
        ap (λ (ws : List (Alt Two)). grow_alts most s ws G) (meet_met n left m some met)
        ∙ ap (λ (i : ℕ). grow_alts most s (meetings i (bit_xor left m.mask)) (grow_alt most s (alt m.mask (f (pair_row rows m.i) (pair_row rows m.j))) G)) one

    -- no choice is left, or no step
    pub meetings_end : (steps left : ℕ) → (left ≡ 0) ⊎ (steps ≡ 0) → (G : Level ℕ) → grow_alts most s (meetings steps left) G ≡ G
    unfolding grow_state meet_left
    meetings_end zero left e G = refl
    meetings_end (suc n) left (inl e) G = ap (λ (ws : List (Alt Two)). grow_alts most s ws G) (meet-by n left true (eq-eqb left 0 e))
    meetings_end (suc n) left (inr e) G = absurd (omega arith)
