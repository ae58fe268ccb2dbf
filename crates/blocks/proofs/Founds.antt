-- What is found from a block depends on the word's choices from the level on, and on the block's own marks and states. Assumes nothing.
use mathlib.Core.Path.{◌≡◌, refl, sym, ap, ap₂, ◌∙◌}
use mathlib.Core.Bool.{Bool, ◌||◌}
use mathlib.Core.List.{List}
use Prim.Native.Nat.{ℕ, zero, suc, ◌+◌, ◌*◌, ◌<◌, ◌≤◌}
use native.Mathlib.Omega.{arith}
use lib.Dec.{eqb}
use lib.IntN.{ℤ}
use Rattle.automata.specs.Members.{up_to}
use Rattle.automata.specs.Tree.{Automaton, tree_of}
use Rattle.verdict.specs.Search.{fits_one}
use Rattle.verdict.proofs.Searching.{matches}
use Rattle.lookup.specs.Lookup.{is_some}
use Rattle.lookup.specs.Alts.{table_automaton}
use Rattle.meeting.specs.declared.Level.{Level}
use Rattle.meeting.specs.All.{all_met}
use Rattle.meeting.proofs.MetLaws.{Same}
use Rattle.matching.specs.Seeking.{word_from, any_word, sought}
use Rattle.reaching.specs.Reached.{is_reached, Kept}
use Rattle.reaching.proofs.ReachLaws.{reached-same}
use Rattle.relating.specs.Found.{plane_of, any_below, found}
use Rattle.relating.proofs.Cells.{plane_cell, same-cells, sought-same}
use Rattle.batching.specs.Fill.{Low}
use Rattle.batching.proofs.Grows.{low-marks}
use Rattle.remembering.specs.Memory.{Same as SameBlock}
use Rattle.walking.specs.Walk.{trees_by}

one_below : (f g : ℕ → Bool) (k i : ℕ) → ((j : ℕ) → j < i + k → f j ≡ g j) → fits_one f (up_to i k) ≡ fits_one g (up_to i k)
one_below f g zero i e = refl
one_below f g (suc k) i e = ap₂ ◌||◌ (e i (omega arith)) (one_below f g k (suc i) (λ j lt. e j (omega arith)))

module _ (S E : Automaton ℕ) (at m wide plane p : ℕ) (l : Level) where
  -- another word with the same choices from the level on
  pub found-words : (w w' stack : List ℕ) → word_from w at m ≡ word_from w' at m → found S E w at m wide plane stack p l ≡ found S E w' at m wide plane stack p l
  found-words w w' stack e =
      ap (λ (u : List ℕ). any_below p (λ j. any_word (suc m) (λ v. all_met (λ s f. matches S E (suc at) m u v (s, f)) wide (plane_of plane stack j) l))) e

  found-marks : (w stack stack' : List ℕ) → ((j : ℕ) → j < p → Same wide (plane_of plane stack j) (plane_of plane stack' j) l) → found S E w at m wide plane stack' p l ≡ found S E w at m wide plane stack p l
  found-marks w stack stack' h =
      one_below (λ j. sought S E w at m wide (plane_of plane stack' j) l) (λ j. sought S E w at m wide (plane_of plane stack j) l) p 0
      (λ j lt. sought-same S E w at m l (h j (omega arith)))

  module _ (narrow : l.stop ≤ wide * 32) (long : l.to * wide ≤ plane) where
    -- another stack with the same words on the level
    pub found-low : (w : List ℕ) {stack stack' : List ℕ} → Low wide plane l stack stack' → found S E w at m wide plane stack' p l ≡ found S E w at m wide plane stack p l
    found-low w {stack} {stack'} h = found-marks w stack stack' (λ j lt. low-marks j narrow long h)

    pub found_block : (w : List ℕ) {row stack row' stack' : List ℕ} → SameBlock wide plane l.from l.to p row stack row' stack'
        → found S E w at m wide plane stack' p l ≡ found S E w at m wide plane stack p l
    found_block w {row} {stack} {row'} {stack'} h =
        found-marks w stack stack' (λ j lt.
        same-cells narrow (λ i lo hi. plane_cell plane stack' j i (omega arith) ∙ h.marks j i lt lo hi ∙ sym (plane_cell plane stack j i (omega arith))))

-- ---- another row with the same states on the level
module _ (rows masks : List ℕ) (coefs : List ℤ) (first : List ℕ) (at m from to : ℕ) (v : List ℕ) where
  pub trees_kept : {row row' : List ℕ} → Kept row to row' → trees_by rows masks coefs first at m row' from to v ≡ trees_by rows masks coefs first at m row from to v
  trees_kept {row} {row'} k =
      reached-same (λ (s : ℕ). is_some (tree_of (table_automaton rows masks coefs first) (suc at) m v s)) (λ (s : ℕ). is_some (tree_of (table_automaton rows masks coefs first) (suc at) m v s)) row row' from to
      (λ s lo hi. k.each s hi) (λ s lo hi. refl)

  pub trees_block : {wide plane p : ℕ} {row stack row' stack' : List ℕ} → SameBlock wide plane from to p row stack row' stack'
      → trees_by rows masks coefs first at m row' from to v ≡ trees_by rows masks coefs first at m row from to v
  unfolding is_reached
  trees_block {row = row} {row' = row'} h =
      reached-same (λ (s : ℕ). is_some (tree_of (table_automaton rows masks coefs first) (suc at) m v s)) (λ (s : ℕ). is_some (tree_of (table_automaton rows masks coefs first) (suc at) m v s)) row row' from to
      (λ s lo hi. ap (λ (x : ℕ). eqb x 1) (h.states s lo hi)) (λ s lo hi. refl)
