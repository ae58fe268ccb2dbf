-- A choice that a state reached lacks begins no word of the level, so that the members of the choices left are those of the choices left in the
-- level's mask. Assumes nothing.
use mathlib.Core.Path.{◌≡◌, refl, sym, ap, ◌∙◌}
use mathlib.Core.Bool.{Bool, true, false, false≢true}
use mathlib.Core.List.{List, [], ◌∷◌, ◌++◌}
use mathlib.Core.Option.{Option, none, some}
use Prim.Native.Nat.{ℕ, zero, suc, ◌+◌, ◌-◌, ◌<◌, ◌≤◌}
use native.Mathlib.Omega.{arith}
use lib.IntN.{ℤ}
use lib.ListN.{set}
use Rattle.automata.specs.Choice.{choices_most, has}
use Rattle.automata.specs.Tree.{tree_of, node, and_then}
use Rattle.automata.specs.Members.{flat, up_to}
use Rattle.lookup.specs.Lookup.{pair_row, leaf_of, is_some}
use Rattle.lookup.specs.Alts.{alts_from, leaf_alts, table_automaton}
use Rattle.stepping.specs.Step.{move_in}
use Rattle.stepping.proofs.Answers.{has-taken}
use Rattle.masks.specs.Next.{FirstFrom, NoneFrom}
use Rattle.reaching.specs.Reached.{all_reached, has_choice}
use Rattle.reaching.proofs.ReachLaws.{reached_tells, reached-is}
use Rattle.walking.specs.Walk.{trees_by, branch_of}
use Rattle.walking.proofs.Branches.{none_pass}

-- the mask has no choice from `lo` up to below `hi`
pub record Lacks (mask lo hi : ℕ) : Type 0 where
  pub after : lo ≤ hi
  pub most : hi ≤ choices_most
  pub skipped : (d : ℕ) → lo ≤ d → d < hi → has mask d ≡ false

pub to-first : {mask lo c : ℕ} → FirstFrom mask lo c → Lacks mask lo c
to-first f = record { after = f.after; most = omega (arith, f.below); skipped = f.skipped }

pub to_end : {mask lo : ℕ} → lo ≤ choices_most → NoneFrom mask lo → Lacks mask lo choices_most
to_end h f = record { after = h; most = omega arith; skipped = f.all }

-- ---- numbers that have nothing
flat_skip : {X : Type 0} (F : ℕ → List X) (total k lo hi : ℕ) → lo + k ≡ hi → hi ≤ total → ((d : ℕ) → lo ≤ d → d < hi → F d ≡ []) → flat F (up_to hi (total - hi)) ≡ flat F (up_to lo (total - lo))
flat_skip F total zero lo hi e le h =
    let same : hi ≡ lo = omega arith in
    ap (λ (i : ℕ). flat F (up_to i (total - i))) same
flat_skip {X} F total (suc k) lo hi e le h =
    let one : suc (total - suc lo) ≡ total - lo = omega arith in
    flat_skip F total k (suc lo) hi (omega arith) le (λ d l u. h d (omega arith) u)
    ∙ sym (ap (λ (xs : List X). xs ++ flat F (up_to (suc lo) (total - suc lo))) (h lo (omega arith) (omega arith)))
    ∙ ap (λ (n : ℕ). flat F (up_to lo n)) one

some_then : {T : Type 0} (o : Option (ℕ × ℕ)) (f : ℕ → ℕ → Option T) → is_some (and_then o f) ≡ true → is_some o ≡ true
some_then none f h = h
some_then (some p) f h = refl

not-then : (a b : Bool) → (a ≡ true → b ≡ true) → b ≡ false → a ≡ false
not-then true b h e = absurd (false≢true (sym e ∙ h refl))
not-then false b h e = refl

module _ (rows masks : List ℕ) (coefs : List ℤ) (first : List ℕ) where
  -- a state that gives a tree has the word's first choice
  tree-has : (at m c : ℕ) (v : List ℕ) (s : ℕ) → is_some (tree_of (table_automaton rows masks coefs first) at m (c ∷ v) s) ≡ true → has_choice masks first c s ≡ true
  unfolding alts_from leaf_alts
  tree-has at zero c [] s h = has-taken (leaf_of rows coefs) masks first s c ∙ h
  tree-has at zero c (d ∷ v) s h = absurd (false≢true h)
  tree-has at (suc m) c v s h =
      has-taken (pair_row rows) masks first s c
      ∙ some_then (move_in rows masks first c s) (λ (l r : ℕ). node (tree_of (table_automaton rows masks coefs first) (suc at) m v l) (tree_of (table_automaton rows masks coefs first) (suc at) m v r)) h

  module _ (row : List ℕ) (from to : ℕ) where
    pub trees_lack : (at m c : ℕ) (v : List ℕ) → all_reached (has_choice masks first c) row from to ≡ false → trees_by rows masks coefs first at m row from to (c ∷ v) ≡ false
    trees_lack at m c v e =
        not-then (trees_by rows masks coefs first at m row from to (c ∷ v)) (all_reached (has_choice masks first c) row from to)
        (λ h.
        let p = reached_tells (λ (s : ℕ). is_some (tree_of (table_automaton rows masks coefs first) (suc at) m (c ∷ v) s)) row from to h in
        reached-is (has_choice masks first c) row from to (record { each = λ s lo hi r. tree-has (suc at) m c v s (p.each s lo hi r) }))
        e

    -- ---- the choices that the level's mask has in turn
    module _ {mask lo hi : ℕ} (is : (d : ℕ) → d < choices_most → has mask d ≡ all_reached (has_choice masks first d) row from to) (next : Lacks mask lo hi) where
      pub skip_lacks : (d : ℕ) → lo ≤ d → d < hi → all_reached (has_choice masks first d) row from to ≡ false
      skip_lacks d l u = sym (is d (omega (arith, next.most))) ∙ next.skipped d l u

      pub skip_members : (root : ℕ) (word : List ℕ) (at m : ℕ)
          → flat (branch_of rows masks coefs first root word at m row from to) (up_to hi (choices_most - hi)) ≡ flat (branch_of rows masks coefs first root word at m row from to) (up_to lo (choices_most - lo))
      skip_members root word at m =
          flat_skip (branch_of rows masks coefs first root word at m row from to) choices_most (hi - lo) lo hi (omega (arith, next.after)) next.most
          (λ d l u. none_pass root (set word at d) (at + 1) m (λ (v : List ℕ). trees_by rows masks coefs first at m row from to (d ∷ v)) (λ v. trees_lack at m d v (skip_lacks d l u)))
