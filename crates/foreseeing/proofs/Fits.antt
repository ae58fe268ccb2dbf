-- A pair that could match by some choices has a row on either side, and the two fit: a scan of all rows finds them. Assumes nothing.
use mathlib.Core.Path.{◌≡◌, refl, sym, ap, ◌∙◌}
use mathlib.Core.Bool.{Bool, true, false, false≢true}
use mathlib.Core.List.{List}
use mathlib.Core.Option.{Option, none, some}
use Prim.Native.Nat.{ℕ, ◌+◌, ◌<◌, ◌≤◌}
use native.Mathlib.Omega.{arith}
use lib.IntN.{ℤ}
use Rattle.amplitude.specs.Leaf.{Leaf}
use Rattle.automata.specs.Choice.{choose}
use Rattle.lookup.specs.Alts.{ends_in}
use Rattle.stepping.specs.Step.{move_in}
use Rattle.hinting.specs.Hint.{LeafHint, KidsHint, Hint}
use Rattle.hinting.proofs.Hints.{leaf-taken, kids-taken, leaf-fits, kids-fit, no_leaf_hint, no_kids_hint}
use Rattle.foreseeing.specs.Foresee.{PairFits}

module _ (rows masks : List ℕ) (coefs : List ℤ) (first end_rows end_masks : List ℕ) (end_coefs : List ℤ) (end_first : List ℕ) (c wide : ℕ) (may : List ℕ) (s e : ℕ) where
  leaf-pair : LeafHint rows masks coefs first end_rows end_masks end_coefs end_first c s e → PairFits true rows coefs first end_rows end_coefs end_first wide may s e
  leaf-pair h = go (choose c (ends_in rows masks coefs first s)) refl
    where
      go : (o : Option Leaf) → choose c (ends_in rows masks coefs first s) ≡ o → PairFits true rows coefs first end_rows end_coefs end_first wide may s e
      go none g = absurd (no_leaf_hint rows masks coefs first end_rows end_masks end_coefs end_first c s e 0 g h)
      go (some x) g =
          let t = leaf-taken rows masks coefs first s c x g in
          record { row = t.row; after = t.after; before = t.before; fits = leaf-fits rows masks coefs first end_rows end_masks end_coefs end_first c s e t.row (g ∙ ap some (sym t.is)) h }

  kids-pair : KidsHint rows masks first end_rows end_masks end_first c wide may s e → PairFits false rows coefs first end_rows end_coefs end_first wide may s e
  kids-pair h = go (move_in rows masks first c s) refl
    where
      go : (o : Option (ℕ × ℕ)) → move_in rows masks first c s ≡ o → PairFits false rows coefs first end_rows end_coefs end_first wide may s e
      go none g = absurd (no_kids_hint rows masks coefs first end_rows end_masks end_coefs end_first c s e 0 wide may g h)
      go (some x) g =
          let t = kids-taken rows masks first s c x g in
          record { row = t.row; after = t.after; before = t.before; fits = kids-fit rows masks coefs first end_rows end_masks end_coefs end_first c s e t.row wide may (g ∙ ap some (sym t.is)) h }

  pub pair_fits : (last : Bool) → Hint last rows masks coefs first end_rows end_masks end_coefs end_first c wide may s e → PairFits last rows coefs first end_rows end_coefs end_first wide may s e
  pair_fits true h = leaf-pair h
  pair_fits false h = kids-pair h
