-- How long the lent slices must be for a block to be looked up or remembered, and what is found and left.
use Rattle.std.specs.Prelude.{◌≡◌, List, ℕ, ◌+◌, ◌*◌, ◌<◌, ◌≤◌, length, get_or, Option}
use Rattle.std.specs.declared.option.Option.TheVariants.{Some, None}
use Rattle.remembering.specs.declared.Seen.{Seen}
use Rattle.remembering.specs.Copies.{Copied, CopiedPlanes}
use Rattle.remembering.specs.Memory.{Same, slot_row, slot_stack, levels_most, cell_of}

-- a block lies in its row and its stack, and in slot k
pub record Placed (from to p wide plane room cells k : ℕ) (row stack kept rows : List ℕ) : Type 0 where
  pub rising : from ≤ to
  pub short : to ≤ cells
  pub narrow : to * wide ≤ plane
  pub few : p ≤ room
  pub in_row : to ≤ length row
  pub in_stack : room * plane ≤ length stack
  pub in_rows : k * cells + cells ≤ length rows
  pub in_kept : k * (room * plane) + room * plane ≤ length kept

-- a block of a level lies in its row and its stack, and the slots lie in theirs
pub record Fits (at from to p wide plane room cells slots : ℕ) (row stack kept rows : List ℕ) (seen : List (Option Seen)) : Type 0 where
  pub level : at < levels_most
  pub rising : from ≤ to
  pub short : to ≤ cells
  pub narrow : to * wide ≤ plane
  pub few : p ≤ room
  pub in_row : to ≤ length row
  pub in_stack : room * plane ≤ length stack
  pub in_kept : slots * (room * plane) ≤ length kept
  pub in_rows : slots * cells ≤ length rows
  pub in_seen : slots * levels_most ≤ length seen

-- slot k has this block for this level, with m members
pub record Held (at from to p wide plane room cells k : ℕ) (row stack kept rows : List ℕ) (seen : List (Option Seen)) (m : ℕ) : Type 0 where
  pub known : get_or seen (cell_of k at) None ≡ Some (record { members = m; planes = p })
  pub same : Same wide plane from to p row stack (slot_row cells k rows) (slot_stack room plane k kept)

-- slot k has the block now, and no other cell was moved
pub record Put (from to p wide plane room cells k : ℕ) (row stack kept rows kept' rows' : List ℕ) : Type 0 where
  pub states : Copied from to (k * cells) row rows rows'
  pub marks : CopiedPlanes (from * wide) (to * wide) plane p (k * (room * plane)) stack kept kept'
