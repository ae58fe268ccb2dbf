-- Document 01, "Trees, words and members": the transitions of a table's states, as the rows of each state have them, and the automaton that they are.
use Rattle.std.specs.Prelude.{List, ℕ, ◌+◌, ◌-◌, ℤ, get_or}
use Rattle.amplitude.specs.Leaf.{Leaf}
use Rattle.automata.specs.Choice.{Alt, alt}
use Rattle.automata.specs.Tree.{Automaton}
use Rattle.stored.specs.Fields.{records_from}
use Rattle.lookup.specs.Lookup.{pair_row, leaf_of}

-- the alternatives in `count` rows from row `from` on: two states each
unfoldable pub alts_from : List ℕ → List ℕ → ℕ → ℕ → List (Alt (ℕ × ℕ))
alts_from rows masks from count = records_from (λ i. alt (get_or masks i 0) (pair_row rows i)) from 1 count

-- those of state q
abbrev pub moves_in : List ℕ → List ℕ → List ℕ → ℕ → List (Alt (ℕ × ℕ))
moves_in rows masks first q = alts_from rows masks (get_or first q 0) (get_or first (q + 1) 0 - get_or first q 0)

-- the same of leaf rows: an amplitude each
unfoldable pub leaf_alts : List ℕ → List ℕ → List ℤ → ℕ → ℕ → List (Alt Leaf)
leaf_alts rows masks coefs from count = records_from (λ i. alt (get_or masks i 0) (leaf_of rows coefs i)) from 1 count

abbrev pub ends_in : List ℕ → List ℕ → List ℤ → List ℕ → ℕ → List (Alt Leaf)
ends_in rows masks coefs first q = leaf_alts rows masks coefs (get_or first q 0) (get_or first (q + 1) 0 - get_or first q 0)

-- the automaton in the slices
abbrev pub table_automaton : List ℕ → List ℕ → List ℤ → List ℕ → Automaton ℕ
table_automaton rows masks coefs first = record { moves = λ i q. moves_in rows masks first q; ends = ends_in rows masks coefs first }
