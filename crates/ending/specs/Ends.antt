-- Document 01, "What each gate builds", at the leaves: the leaf transitions of a table's states, and those of the state that a stored key names.
use Rattle.std.specs.Prelude.{List, ℕ, ℤ}
use Rattle.amplitude.specs.Leaf.{Leaf}
use Rattle.automata.specs.Choice.{Alt}
use Rattle.gates.specs.Roles.{key_ends}
use Rattle.lookup.specs.Alts.{ends_in}
use Rattle.stepwise.specs.Code.{unstored}

-- the leaf alternatives of the state that a stored key names
unfoldable pub ends_of : List ℕ → List ℕ → List ℤ → List ℕ → ℕ → List (Alt Leaf)
ends_of rows masks coefs first x = key_ends (ends_in rows masks coefs first) (unstored x)
