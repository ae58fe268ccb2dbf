-- Document 01, "each state reached has a transition with its level's choice": the row of that transition in a table, and a state's choices.
use Rattle.std.specs.Prelude.{Bool, true, false, cond, List, ℕ, zero, suc, ◌+◌, ◌-◌, ◌*◌, ◌<◌, ◌≤◌, ℤ, length, get_or}
use Rattle.std.proofs.Math.Option.{Option, none, some}
use Rattle.std.specs.Int.Bits.{bit_or}
use Rattle.amplitude.specs.Leaf.{Leaf}
use Rattle.automata.specs.Choice.{has}
use Rattle.tables.specs.Table.{row_width, leaf_row}

-- the first of `count` rows from row `from` on whose mask has the choice c
unfoldable pub row_with : List ℕ → ℕ → ℕ → ℕ → Option ℕ
row_with masks c from zero = none
row_with masks c from (suc count) = cond (has (get_or masks from 0) c) (some from) (row_with masks c (suc from) count)

-- the row of state s with choice c: its rows are those from where it begins up to where the next state does
abbrev pub transition_row : List ℕ → List ℕ → ℕ → ℕ → Option ℕ
transition_row masks first s c = row_with masks c (get_or first s 0) (get_or first (s + 1) 0 - get_or first s 0)

-- the choices of `count` rows from row `from` on
unfoldable pub union_of : List ℕ → ℕ → ℕ → ℕ
union_of masks from zero = 0
union_of masks from (suc count) = bit_or (get_or masks from 0) (union_of masks (suc from) count)

-- a state has its rows in the slices: those from where it begins up to where the next state does
abbrev pub HasState : List ℕ → List ℕ → ℕ → Type 0
HasState masks first s = (s + 1 < length first) × (get_or first (s + 1) 0 ≤ length masks)

-- the choices of state s
abbrev pub choices_of : List ℕ → List ℕ → ℕ → ℕ
choices_of masks first s = union_of masks (get_or first s 0) (get_or first (s + 1) 0 - get_or first s 0)

-- what row i takes: left and right
abbrev pub pair_row : List ℕ → ℕ → ℕ × ℕ
pair_row rows i = (get_or rows (i * row_width + 1) 0, get_or rows (i * row_width + 2) 0)

-- what a leaf's row i takes: its amplitude
abbrev pub leaf_of : List ℕ → List ℤ → ℕ → Leaf
leaf_of rows coefs i = leaf_row coefs (pair_row rows i).0 (pair_row rows i).1

abbrev pub is_some : {X : Type 0} → Option X → Bool
is_some none = false
is_some (some x) = true
