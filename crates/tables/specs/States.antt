-- Document 01, "TR records, and LF records, strictly increase by state": the states of records and of rows, and that they do not fall.
use Rattle.std.specs.Prelude.{List, ◌++◌, map, ℕ, ◌*◌, ◌<◌, ◌≤◌, get_or}
use Rattle.automata.specs.Sets.{Rec, rec, QSet}
use Rattle.tables.specs.Table.{row_width}

abbrev pub state_in : {X : Type 0} → Rec X → ℕ
state_in (rec s m x) = s

-- the states of a set's records, all TR first
abbrev pub states_of : QSet → List ℕ
states_of Q = map state_in Q.inner ++ map state_in Q.leaves

-- the state of record i of a set, from 0
abbrev pub state_at : QSet → ℕ → ℕ
state_at Q i = get_or (states_of Q) i 0

-- the state of row i
abbrev pub state_row : List ℕ → ℕ → ℕ
state_row rows i = get_or rows (i * row_width) 0

-- the first `count` states do not fall
pub record Rising (state : ℕ → ℕ) (count : ℕ) : Type 0 where
  pub rises : (i j : ℕ) → i ≤ j → j < count → state i ≤ state j
