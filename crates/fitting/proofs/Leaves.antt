-- The leaf of a row, as the code reads it, and the leaves of a pair by what both lookups answer. Assumes nothing.
use mathlib.Core.Path.{◌≡◌, refl, sym, ap₂, ◌∙◌}
use mathlib.Core.Bool.{Bool, true, false, false≢true}
use mathlib.Core.List.{List}
use mathlib.Core.Option.{Option, none, some}
use Prim.Native.Nat.{ℕ, ◌+◌, ◌<◌, ◌≤◌}
use lib.IntN.{ℤ}
use lib.ListN.{get_or}
use Rattle.amplitude.specs.Amp.{Amp}
use Rattle.amplitude.specs.Leaf.{Leaf, leaf, same}
use Rattle.automata.specs.Choice.{choose}
use Rattle.verdict.specs.Search.{same_leaves}
use Rattle.tables.specs.Table.{leaf_row}
use Rattle.std.specs.declared.option.Option.{Option as Answer}
use Rattle.std.specs.declared.option.Option.TheVariants.{Some, None}
use Rattle.lookup.specs.Lookup.{transition_row, pair_row, leaf_of, is_some}
use Rattle.lookup.specs.Answer.{found}
use Rattle.lookup.specs.Alts.{leaf_alts, ends_in}
use Rattle.leafrows.specs.Row.{row_amp}
use Rattle.stepping.proofs.Answers.{taken, not_taken, has-taken}
use Rattle.sharing.specs.Shared.{has_choice, LevelOpen}
use Rattle.meeting.specs.declared.Level.{Level}
use Rattle.meeting.specs.All.{all_met}
use Rattle.meeting.proofs.MetLaws.{met_fails}
use Rattle.fitting.specs.Fit.{leaves_in, LeafStage}

pub leaf-is : (rows : List ℕ) (coefs : List ℤ) (i : ℕ) {k : ℕ} {x : Amp} → k ≡ (pair_row rows i).1 → x ≡ row_amp coefs (pair_row rows i).0 → leaf k x ≡ leaf_of rows coefs i
unfolding leaf_row
leaf-is rows coefs i e f = ap₂ leaf e f

-- ---- the row that a lookup found
pub record Leafed (rows masks : List ℕ) (coefs : List ℤ) (first : List ℕ) (c s i : ℕ) : Type 0 where
  pub after : get_or first s 0 ≤ i
  pub before : i < get_or first (s + 1) 0
  pub is : choose c (ends_in rows masks coefs first s) ≡ some (leaf_of rows coefs i)

module _ (rows masks : List ℕ) (coefs : List ℤ) (first : List ℕ) (s c : ℕ) {a : Answer ℕ} (e : a ≡ found (transition_row masks first s c)) where
  pub leafed : (i : ℕ) → a ≡ Some i → Leafed rows masks coefs first c s i
  unfolding leaf_alts
  leafed i r = let t = taken (leaf_of rows coefs) masks first s c e i r in record { after = t.after; before = t.before; is = t.is }

  pub leafless : a ≡ None → choose c (ends_in rows masks coefs first s) ≡ none
  unfolding leaf_alts
  leafless r = not_taken (leaf_of rows coefs) masks first s c e r

-- ---- both leaves
pub no_leaf : (o p : Option Leaf) → o ≡ none → false ≡ same_leaves o p
no_leaf o p e = rw e

pub no_end-leaf : (o p : Option Leaf) → p ≡ none → false ≡ same_leaves o p
no_end-leaf none p e = refl
no_end-leaf (some x) p e = rw e

pub both-leaves : (o p : Option Leaf) {x y : Leaf} → o ≡ some x → p ≡ some y → {r : Bool} → r ≡ same x y → r ≡ same_leaves o p
both-leaves o p e f h = h ∙ sym (ap₂ same_leaves e f)

-- ---- a choice that not all end states have
leaf-there : (o p : Option Leaf) → same_leaves o p ≡ true → is_some p ≡ true
leaf-there none p e = absurd (false≢true e)
leaf-there (some x) none e = e
leaf-there (some x) (some y) e = refl

pub no_choice : (rows masks : List ℕ) (coefs : List ℤ) (first end_rows end_masks : List ℕ) (end_coefs : List ℤ) (end_first : List ℕ) (c d wide : ℕ) (met : List ℕ) (l : Level)
    → all_met (has_choice end_masks end_first d) wide met l ≡ false → all_met (leaves_in rows masks coefs first end_rows end_masks end_coefs end_first c d) wide met l ≡ false
unfolding leaf_alts
no_choice rows masks coefs first end_rows end_masks end_coefs end_first c d wide met l =
    met_fails (leaves_in rows masks coefs first end_rows end_masks end_coefs end_first c d) (has_choice end_masks end_first d) wide met l
    (λ s e on h. has-taken (leaf_of end_rows end_coefs) end_masks end_first e d ∙ leaf-there (choose c (ends_in rows masks coefs first s)) (choose d (ends_in end_rows end_masks end_coefs end_first e)) h)

-- the choices of the end states of the level can be looked up
pub level_open : {rows masks : List ℕ} {coefs : List ℤ} {first end_rows end_masks : List ℕ} {end_coefs : List ℤ} {end_first : List ℕ} {wide size : ℕ} {l : Level}
    → LeafStage rows masks coefs first end_rows end_masks end_coefs end_first wide size l → LevelOpen end_masks end_first wide size l
level_open t = record { each = λ s e lo hi lo' hi'. record { there = t.there s e lo hi lo' hi'; begun = (t.ends e lo' hi').begun; long = (t.ends e lo' hi').long } }
