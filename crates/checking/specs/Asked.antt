-- What the whole check asks: a room for the start set and for the gates, and one for an end set of at most 128 states, that fit its arrays; and the
-- rows of the last phase.
use Rattle.std.specs.Prelude.{List, ℕ, ◌≤◌}
use Rattle.stored.specs.Rules.{n_most}
use Rattle.tables.specs.Slices.{RoomyOn}
use Rattle.building.specs.declared.Room.{Room}
use Rattle.carrying.specs.Tables.{Table}
use Rattle.deciding.specs.Decided.{LastRows, Roomed}

-- a table with room for every set that the room admits
abbrev pub RoomyFor : Table → Room → Type 0
RoomyFor T room = RoomyOn T n_most room.states room.inner room.leaves

pub record Checking (met stack kept hints : List ℕ) (room endroom : Room) : Type 0 where
  pub start : Roomed room
  pub end : Roomed endroom
  pub narrow : endroom.states ≤ 128
  pub rows : LastRows met stack kept hints
