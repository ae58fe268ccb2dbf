-- Keys as numbers: a gate's automaton whose states are stored keys.
use Rattle.std.specs.Prelude.{ℕ, ◌/◌, ◌%◌, ◌-◌, ◌<◌, cond, eqb}
use Rattle.automata.specs.Choice.{map_alt}
use Rattle.automata.specs.Tree.{Automaton}
use Rattle.gates.specs.Gate.{Gate}
use Rattle.gates.specs.Key.{L, R, Key, plain, shifted, inside, pair, radix, stored}
use Rattle.gates.specs.Roles.{Two, keyed}

-- the tag, the first and the second number of a stored key
abbrev pub tag_in : ℕ → ℕ
tag_in x = x / radix / radix

abbrev pub first_in : ℕ → ℕ
first_in x = x / radix % radix

abbrev pub second_in : ℕ → ℕ
second_in x = x % radix

-- the key that a number stores
unfoldable pub unstored : ℕ → Key
unstored x =
    cond (eqb (tag_in x) 0) (plain (first_in x))
    (cond (eqb (tag_in x) 1) (inside (first_in x))
    (cond (eqb (tag_in x) 2) (pair (first_in x) (second_in x) L)
    (cond (eqb (tag_in x) 3) (pair (first_in x) (second_in x) R)
    (shifted (tag_in x - 4) (first_in x)))))

-- a stored key of states below a number
pub record KeyOf (states x : ℕ) : Type 0 where
  pub tag : tag_in x < 260
  pub first : first_in x < states
  pub second : second_in x < states

abbrev pub stored_two : Two → ℕ × ℕ
stored_two p = (stored p.0, stored p.1)

-- the gate's automaton over stored keys
abbrev pub coded : Gate → Automaton ℕ → Automaton ℕ
coded g A = record { moves = λ i x. map_alt stored_two ((keyed g A).moves i (unstored x)); ends = λ x. (keyed g A).ends (unstored x) }
