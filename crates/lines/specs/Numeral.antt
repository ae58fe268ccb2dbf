-- Document 01, "Single spaces between fields": a number's digits, and fields.
use Rattle.std.specs.Prelude.{List, ◌∷◌, ℕ}
use Rattle.automata.specs.Members.{flat}
use Rattle.jobs.specs.Program.{decimal}

-- the digits that the definitions give a number
unfoldable pub numeral : ℕ → List ℕ
numeral n = decimal n

-- a space and a number
abbrev pub field : ℕ → List ℕ
field n = 32 ∷ numeral n

abbrev pub field_list : List ℕ → List ℕ
field_list ns = flat field ns
