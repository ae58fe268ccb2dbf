-- Slices that are lent for the set that a gate makes.
use Rattle.std.specs.Prelude.{List, ℕ, ◌+◌, ◌*◌, ◌<◌, ◌≤◌, ℤ, length}
use Rattle.setfile.specs.declared.Form.{Form}
use Rattle.tables.specs.Table.{row_width}
use Rattle.tables.specs.States.{state_row, Rising}
use Rattle.building.specs.declared.Room.{Room}
use Rattle.building.specs.Whole.{Wide}
use Rattle.standing.specs.Tables.{Table}

-- slices with room for a table of n qubits
pub record Lent (rows masks : List ℕ) (coefs : List ℤ) (counts first : List ℕ) (n : ℕ) (room : Room) : Type 0 where
  pub wide : Wide rows masks coefs room
  pub levels : n + 1 ≤ length counts
  pub begins : room.states + 1 ≤ length first
  pub few : room.inner + room.leaves < 65536

abbrev pub LentOn : Table → ℕ → Room → Type 0
LentOn T n room = Lent T.rows T.masks T.coefs T.counts T.first n room

-- rows whose states do not fall, with room for where each state begins
pub record Indexable (rows first : List ℕ) (form : Form) : Type 0 where
  pub few : form.inner + form.leaves < 65536
  pub wide : (form.inner + form.leaves) * row_width ≤ length rows
  pub begins : form.states + 1 ≤ length first
  pub rises : Rising (state_row rows) (form.inner + form.leaves)
