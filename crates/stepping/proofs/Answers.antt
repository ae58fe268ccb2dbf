-- What a lookup's answer says of the transitions of a state: the row found is what the choice takes, and where none is found the state has
-- none. Assumes nothing.
use mathlib.Core.Path.{◌≡◌, refl, sym, ap, ◌∙◌}
use mathlib.Core.Bool.{Bool, true, false, cond}
use mathlib.Core.List.{List}
use mathlib.Core.Option.{Option, none, some}
use Prim.Native.Nat.{ℕ, zero, suc, ◌+◌, ◌-◌, ◌<◌, ◌≤◌}
use native.Mathlib.Numerals.{add-one}
use native.Mathlib.Omega.{arith}
use lib.ListN.{get_or}
use Rattle.automata.specs.Choice.{has, alt, map_o, choose}
use Rattle.stored.specs.Fields.{records_from}
use Rattle.std.specs.declared.option.Option.{Option as Answer}
use Rattle.std.specs.declared.option.Option.TheVariants.{Some, None}
use Rattle.lookup.specs.Lookup.{row_with, transition_row, choices_of, is_some}
use Rattle.lookup.specs.Answer.{found}
use Rattle.lookup.proofs.Finding.{scan_hits}
use Rattle.lookup.proofs.Unions.{union-has, some-map}

found-row : (o : Option ℕ) (i : ℕ) → found o ≡ Some i → o ≡ some i
found-row none i e = let z : ◌≡◌ {A = ℕ} 0 1 = cc in absurd (omega arith)
found-row (some j) i e = cc

found_nothing : (o : Option ℕ) → found o ≡ None → o ≡ none
found_nothing none e = refl
found_nothing (some j) e = let z : ◌≡◌ {A = ℕ} 0 1 = cc in absurd (omega arith)

-- rows as alternatives: what is chosen is what the first row with the choice takes
pub choose-rows : {X : Type 0} (f : ℕ → X) (masks : List ℕ) (c from count : ℕ)
    → choose c (records_from (λ (i : ℕ). alt (get_or masks i 0) (f i)) from 1 count) ≡ map_o f (row_with masks c from count)
unfolding records_from row_with
choose-rows f masks c from zero = refl
choose-rows {X} f masks c from (suc count) = go (has (get_or masks from 0) c) _ (row_with masks c (suc from) count) (choose-rows f masks c (from + 1) count ∙ ap (λ (i : ℕ). map_o f (row_with masks c i count)) (add-one from))
  where
    go : (b : Bool) (o : Option X) (p : Option ℕ) → o ≡ map_o f p → cond b (some (f from)) o ≡ map_o f (cond b (some from) p)
    go true o p e = refl
    go false o p e = e

-- a row of state s that a lookup found: it is one of the state's, and it is what the choice takes
pub record Taken {X : Type 0} (f : ℕ → X) (masks first : List ℕ) (s c i : ℕ) : Type 0 where
  pub after : get_or first s 0 ≤ i
  pub before : i < get_or first (s + 1) 0
  pub is : choose c (records_from (λ (j : ℕ). alt (get_or masks j 0) (f j)) (get_or first s 0) 1 (get_or first (s + 1) 0 - get_or first s 0)) ≡ some (f i)

module _ {X : Type 0} (f : ℕ → X) (masks first : List ℕ) (s c : ℕ) {a : Answer ℕ} (e : a ≡ found (transition_row masks first s c)) where
  pub taken : (i : ℕ) → a ≡ Some i → Taken f masks first s c i
  taken i r =
      let row : transition_row masks first s c ≡ some i = found-row _ i (sym e ∙ r) in
      let hit = scan_hits masks c (get_or first s 0) (get_or first (s + 1) 0 - get_or first s 0) i row in
      record {
        after = hit.after;
        before = omega (arith, hit.after, hit.before);
        is = choose-rows f masks c (get_or first s 0) (get_or first (s + 1) 0 - get_or first s 0) ∙ ap (map_o f) row;
      }

  pub not_taken : a ≡ None → choose c (records_from (λ (j : ℕ). alt (get_or masks j 0) (f j)) (get_or first s 0) 1 (get_or first (s + 1) 0 - get_or first s 0)) ≡ none
  not_taken r = choose-rows f masks c (get_or first s 0) (get_or first (s + 1) 0 - get_or first s 0) ∙ ap (map_o f) (found_nothing (transition_row masks first s c) (sym e ∙ r))

-- a state takes something under a choice exactly if it is one of the state's choices
pub has-taken : {X : Type 0} (f : ℕ → X) (masks first : List ℕ) (s c : ℕ)
    → has (choices_of masks first s) c ≡ is_some (choose c (records_from (λ (j : ℕ). alt (get_or masks j 0) (f j)) (get_or first s 0) 1 (get_or first (s + 1) 0 - get_or first s 0)))
has-taken f masks first s c =
    union-has masks c (get_or first s 0) (get_or first (s + 1) 0 - get_or first s 0)
    ∙ sym (ap is_some (choose-rows f masks c (get_or first s 0) (get_or first (s + 1) 0 - get_or first s 0)) ∙ some-map f (transition_row masks first s c))
