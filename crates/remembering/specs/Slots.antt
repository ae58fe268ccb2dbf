-- What the other definitions say of slices, said of a block and of the slots.
use Rattle.std.specs.Prelude.{◌≡◌, List, ℕ, length}
use Rattle.remembering.specs.declared.Block.{Block}
use Rattle.remembering.specs.declared.Slots.{Slots}
use Rattle.remembering.specs.Fits.{Placed, Fits, Held, Put}
use Rattle.remembering.specs.Memory.{Same, slot_row, slot_stack, Saying, Memory}

-- the block lies in slot k
abbrev pub PlacedIn : Slots → Block → ℕ → Type 0
PlacedIn s b k = Placed b.from b.to b.p b.wide b.plane b.room b.cells k b.row.now b.stack.now s.kept.now s.rows.now

-- the block of level `at` lies in its row and its stack, and the slots lie in theirs
abbrev pub FitsIn : Slots → Block → ℕ → Type 0
FitsIn s b at = Fits at b.from b.to b.p b.wide b.plane b.room b.cells s.count b.row.now b.stack.now s.kept.now s.rows.now s.seen.now

-- a block with the same bytes and the same marks
abbrev pub SameBlock : Block → List ℕ → List ℕ → Type 0
SameBlock b row stack = Same b.wide b.plane b.from b.to b.p b.row.now b.stack.now row stack

-- slot k has this block
abbrev pub HasBlock : Slots → Block → ℕ → Type 0
HasBlock s b k = SameBlock b (slot_row b.cells k s.rows.now) (slot_stack b.room b.plane k s.kept.now)

-- slot k has this block for level `at`, with m members
abbrev pub HeldIn : Slots → Block → ℕ → ℕ → ℕ → Type 0
HeldIn s b k at m = Held at b.from b.to b.p b.wide b.plane b.room b.cells k b.row.now b.stack.now s.kept.now s.rows.now s.seen.now m

-- the blocks that are remembered, which lie as this one does, are such of which `good` holds
abbrev pub MemoryIn : Slots → Block → (ℕ → ℕ) → Saying → Type 0
MemoryIn s b low good = Memory b.wide b.plane b.room b.cells s.count low good s.seen.now s.rows.now s.kept.now

-- the slices stay the same ones, with their lengths, and so many slots
pub record SameSizes (s s' : Slots) : Type 0 where
  pub count : s'.count ≡ s.count
  pub rows_same : s'.rows.ghost_name ≡ s.rows.ghost_name
  pub kept_same : s'.kept.ghost_name ≡ s.kept.ghost_name
  pub seen_same : s'.seen.ghost_name ≡ s.seen.ghost_name
  pub turn_same : s'.turn.ghost_name ≡ s.turn.ghost_name
  pub rows : length s'.rows.now ≡ length s.rows.now
  pub kept : length s'.kept.now ≡ length s.kept.now
  pub seen : length s'.seen.now ≡ length s.seen.now
  pub turn : length s'.turn.now ≡ length s.turn.now

-- so is everything else but whose turn it is
pub record SameAs (s s' : Slots) : Type 0 where
  pub sizes : SameSizes s s'
  pub rows : s'.rows.now ≡ s.rows.now
  pub kept : s'.kept.now ≡ s.kept.now
  pub seen : s'.seen.now ≡ s.seen.now

-- slot k has the block now, and no other cell was moved
pub record PutIn (s s' : Slots) (b : Block) (k : ℕ) : Type 0 where
  pub sizes : SameSizes s s'
  pub cells : Put b.from b.to b.p b.wide b.plane b.room b.cells k b.row.now b.stack.now s.kept.now s.rows.now s'.kept.now s'.rows.now
  pub seen : s'.seen.now ≡ s.seen.now
