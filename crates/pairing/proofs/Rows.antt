-- A row that a scan finds is the alternative picked, and where it finds none the default stays; and what is picked among rows by their numbers is
-- picked among what the rows hold. Assumes nothing.
use mathlib.Core.Path.{◌≡◌, refl, ap, ◌∙◌}
use mathlib.Core.Bool.{Bool, true, false, cond}
use mathlib.Core.List.{List, [], ◌∷◌}
use mathlib.Core.Option.{Option, none, some}
use Prim.Native.Nat.{ℕ, zero, suc, ◌+◌, ◌-◌, ◌<◌, ◌≤◌}
use native.Mathlib.Decide.{dec_lt}
use native.Mathlib.Numerals.{add-one}
use native.Mathlib.Omega.{arith}
use lib.Bits.{bit_and, and_zero_l, and_zero_r}
use lib.ListN.{get_or}
use Rattle.std.specs.Option.{unwrap_or}
use Rattle.automata.specs.Choice.{Alt, alt, has, map_alt}
use Rattle.stored.specs.Fields.{records_from}
use Rattle.lookup.specs.Lookup.{row_with, union_of, pair_row}
use Rattle.lookup.specs.Answer.{found}
use Rattle.lookup.specs.Alts.{alts_from}
use Rattle.lookup.proofs.Finding.{scan_hits}
use Rattle.stepwise.specs.Meet.{pick}
use Rattle.pairing.specs.Meetings.{alt_row, row_alt, row_alts, Picked}

picked : Alt ℕ → List ℕ → Option ℕ → Alt ℕ
picked d masks none = d
picked d masks (some i) = row_alt masks i

pick-rows : (d : Alt ℕ) (masks : List ℕ) (c from count : ℕ) → pick d c (row_alts masks from count) ≡ picked d masks (row_with masks c from count)
unfolding records_from row_with picked
pick-rows d masks c from zero = refl
pick-rows d masks c from (suc count) = go (has (get_or masks from 0) c) (rw add-one (pick-rows d masks c (suc from) count))
  where
    go : (b : Bool) → pick d c (row_alts masks (from + 1) count) ≡ picked d masks (row_with masks c (suc from) count)
        → cond b (row_alt masks from) (pick d c (row_alts masks (from + 1) count)) ≡ picked d masks (cond b (some from) (row_with masks c (suc from) count))
    go true e = refl
    go false e = e

-- what a scan from row `from` up to below row `to` finds, or row `from`
pub pick-found : (masks : List ℕ) (c from to : ℕ) → from < to → Picked masks from to c (unwrap_or (found (row_with masks c from (to - from))) from)
unfolding picked
pick-found masks c from to less = go (row_with masks c from (to - from)) refl
  where
    go : (o : Option ℕ) → row_with masks c from (to - from) ≡ o → Picked masks from to c (unwrap_or (found o) from)
    go none e = record { after = omega arith; before = less; is = pick-rows (row_alt masks from) masks c from (to - from) ∙ ap (picked (row_alt masks from) masks) e }
    go (some i) e =
        let t = scan_hits masks c from (to - from) i e in
        record { after = t.after; before = omega (arith, t.before); is = pick-rows (row_alt masks from) masks c from (to - from) ∙ ap (picked (row_alt masks from) masks) e }

-- ---- alternatives by number, and what they take
abbrev pub mapped : {X Y : Type 0} → (X → Y) → Alt X → Alt Y
mapped f (alt m x) = alt m (f x)

pub pick-map : {X Y : Type 0} (f : X → Y) (d : Alt X) (c : ℕ) (us : List (Alt X)) → pick (mapped f d) c (map_alt f us) ≡ mapped f (pick d c us)
pick-map f d c [] = refl
pick-map f d c (alt m x ∷ us) = go (has m c) (pick-map f d c us)
  where
    go : (b : Bool) → pick (mapped f d) c (map_alt f us) ≡ mapped f (pick d c us) → cond b (alt m (f x)) (pick (mapped f d) c (map_alt f us)) ≡ mapped f (cond b (alt m x) (pick d c us))
    go true e = refl
    go false e = e

module _ (rows masks : List ℕ) where
  rows-taken : (from count : ℕ) → alts_from rows masks from count ≡ map_alt (pair_row rows) (row_alts masks from count)
  unfolding alts_from records_from
  rows-taken from zero = refl
  rows-taken from (suc count) = ap (λ (us : List (Alt (ℕ × ℕ))). alt_row rows masks from ∷ us) (rows-taken (from + 1) count)

  -- the two states in the row that is picked
  pub row-picked : {from to c i : ℕ} → Picked masks from to c i → pick (alt_row rows masks from) c (alts_from rows masks from (to - from)) ≡ alt_row rows masks i
  row-picked {from} {to} {c} {i} p =
      ap (pick (alt_row rows masks from) c) (rows-taken from (to - from)) ∙ pick-map (pair_row rows) (row_alt masks from) c (row_alts masks from (to - from)) ∙ ap (mapped (pair_row rows)) p.is

-- ---- choices are shared only where both states have rows
no_rows : (masks : List ℕ) (from to : ℕ) → to ≤ from → union_of masks from (to - from) ≡ 0
unfolding union_of
no_rows masks from to h = let e : to - from ≡ 0 = omega arith in ap (union_of masks from) e

pub shared-rows : (masks : List ℕ) (qfrom qto pfrom pto : ℕ) {a b : ℕ} → a ≡ union_of masks qfrom (qto - qfrom) → b ≡ union_of masks pfrom (pto - pfrom)
    → (bit_and a b ≡ 0 → ⊥) → (qfrom < qto) × (pfrom < pto)
shared-rows masks qfrom qto pfrom pto {a} {b} ea eb shared = (go (dec_lt qfrom qto), by (dec_lt pfrom pto))
  where
    go : Dec (qfrom < qto) → qfrom < qto
    go (yes h) = h
    go (no h) = absurd (shared (ap (λ (u : ℕ). bit_and u b) (ea ∙ no_rows masks qfrom qto (omega arith)) ∙ and_zero_l b))

    by : Dec (pfrom < pto) → pfrom < pto
    by (yes h) = h
    by (no h) = absurd (shared (ap (bit_and a) (eb ∙ no_rows masks pfrom pto (omega arith)) ∙ and_zero_r a))
