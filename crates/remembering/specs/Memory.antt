-- Blocks remembered level by level. A block is what belongs to one level, whose states are those from `from` up to below `to`: their bytes in
-- a row, and their marks, `wide` cells for each state, in the first p planes of a stack. A memory keeps blocks in slots, each with a row and a
-- stack of its own, and with 21 cells, one for each level: nothing, or the block's members and the number of its planes.
use Rattle.std.specs.Prelude.{◌≡◌, Bool, true, List, ℕ, suc, ◌+◌, ◌*◌, ◌<◌, ◌≤◌, get_or, drop, Option}
use Rattle.std.specs.declared.option.Option.TheVariants.{Some, None}
use Rattle.remembering.specs.declared.Seen.{Seen}

-- two blocks with the same bytes and the same marks
pub record Same (wide plane from to p : ℕ) (row stack row' stack' : List ℕ) : Type 0 where
  pub states : (s : ℕ) → from ≤ s → s < to → get_or row' s 0 ≡ get_or row s 0
  pub marks : (j i : ℕ) → j < p → from * wide ≤ i → i < to * wide → get_or stack' (j * plane + i) 0 ≡ get_or stack (j * plane + i) 0

-- the row of slot k, where each has so many cells
abbrev pub slot_row : ℕ → ℕ → List ℕ → List ℕ
slot_row cells k rows = drop (k * cells) rows

-- the stack of slot k, where each has room for so many planes
abbrev pub slot_stack : ℕ → ℕ → ℕ → List ℕ → List ℕ
slot_stack room plane k kept = drop (k * (room * plane)) kept

abbrev pub levels_most : ℕ
levels_most = 21

-- the place of slot k's cell for level `at`
abbrev pub cell_of : ℕ → ℕ → ℕ
cell_of k at = k * levels_most + at

-- what is said of a level's block: a test of the level, the number of planes, the row, the stack and the number of members
abbrev pub Saying : Type 0
Saying = ℕ → ℕ → List ℕ → List ℕ → ℕ → Bool

-- the block that slot k has for a level: it lies in the slot, and what is said holds of each block that is the same
pub record Remembered (wide plane room cells : ℕ) (low : ℕ → ℕ) (good : Saying) (k at m p : ℕ) (rows kept : List ℕ) : Type 0 where
  pub few : p ≤ room
  pub short : low (suc at) ≤ cells
  pub narrow : low (suc at) * wide ≤ plane
  pub says : (row stack : List ℕ) → Same wide plane (low at) (low (suc at)) p row stack (slot_row cells k rows) (slot_stack room plane k kept) → good at p row stack m ≡ true

-- level `at` has the states from low at up to below low (suc at); every block that is remembered is one of which `good` holds
pub record Memory (wide plane room cells slots : ℕ) (low : ℕ → ℕ) (good : Saying) (seen : List (Option Seen)) (rows kept : List ℕ) : Type 0 where
  pub each : (k at m p : ℕ) → k < slots → at < levels_most → get_or seen (cell_of k at) None ≡ Some (record { members = m; planes = p })
      → Remembered wide plane room cells low good k at m p rows kept
