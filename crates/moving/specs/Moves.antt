-- Document 01, "What each gate builds": the transitions of a table's states, and those of the state that a stored key names.
use Rattle.std.specs.Prelude.{List, ℕ, ◌+◌, ◌-◌, ◌*◌, ◌<◌, ◌≤◌, eqb, length, get_or}
use Rattle.automata.specs.Choice.{Alt, alt, map_alt}
use Rattle.automata.proofs.Choosing.{Disjoint}
use Rattle.automata.proofs.Order.{Masked}
use Rattle.gates.specs.Key.{stored}
use Rattle.gates.specs.Roles.{Role, Two, key_moves}
use Rattle.tables.specs.Table.{row_width}
use Rattle.lookup.specs.Alts.{alts_from, moves_in}
use Rattle.stepwise.specs.Grow.{Level, grow, grow_state}
use Rattle.stepwise.specs.Code.{unstored, stored_two}
use Rattle.growing.specs.declared.Most.{Most}

-- those of the state that a stored key names, children as stored keys, at a level with this role
unfoldable pub moves_of : Role → List ℕ → List ℕ → List ℕ → ℕ → List (Alt (ℕ × ℕ))
moves_of o rows masks first x = map_alt stored_two (key_moves o (moves_in rows masks first) (unstored x))

-- a level grown by one alternative of a state, and by a list of them, children as keys
abbrev pub grow_alt : Most → ℕ → Alt Two → Level ℕ → Level ℕ
grow_alt most s (alt m p) G = grow eqb most.base s m (stored p.0) (stored p.1) G

abbrev pub grow_alts : Most → ℕ → List (Alt Two) → Level ℕ → Level ℕ
grow_alts most s us G = grow_state eqb most.base s (map_alt stored_two us) G

-- rows from `from` up to below `to` that are there, with masks of 32 bits that share no choice
pub record State (rows masks : List ℕ) (from to : ℕ) : Type 0 where
  pub rows_there : to * row_width ≤ length rows
  pub masks_there : to ≤ length masks
  pub masked : Masked (alts_from rows masks from (to - from))
  pub disjoint : Disjoint (alts_from rows masks from (to - from))

-- a table with `states` states whose rows are there, with masks of 32 bits that share no choice within a state
pub record Source (rows masks first : List ℕ) (states : ℕ) : Type 0 where
  pub first_there : states < length first
  pub rises : (q : ℕ) → q < states → get_or first q 0 ≤ get_or first (q + 1) 0
  pub rows_there : (q : ℕ) → q < states → get_or first (q + 1) 0 * row_width ≤ length rows
  pub masks_there : (q : ℕ) → q < states → get_or first (q + 1) 0 ≤ length masks
  pub masked : (q : ℕ) → q < states → Masked (moves_in rows masks first q)
  pub disjoint : (q : ℕ) → q < states → Disjoint (moves_in rows masks first q)
