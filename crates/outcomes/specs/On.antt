-- What is said of slices at a block, said of a task, of the rows that a walk writes, and of the place where it stands.
use Rattle.std.specs.Prelude.{◌≡◌, Bool, List, ℕ, ◌<◌, ◌≤◌, length}
use Rattle.lookup.specs.Lookup.{transition_row, is_some}
use Rattle.meeting.specs.declared.Level.{Level}
use Rattle.reaching.specs.Reached.{all_reached, EndedOn}
use Rattle.remembering.specs.declared.Block.{Block}
use Rattle.walking.specs.declared.Task.{Task}
use Rattle.blocks.specs.Good.{Clean}
use Rattle.blocks.specs.Block.{row_cells, Ending}
use Rattle.outcomes.specs.declared.Place.{Place}
use Rattle.outcomes.specs.declared.Walk.{Walk}

-- the rows of the level's states are there, and a cell for each of them
abbrev pub RowsThere : Task → Level → ℕ → Type 0
RowsThere k l cells = ((s : ℕ) → l.from ≤ s → s < l.to → EndedOn k.sides.image s) × (l.to ≤ cells)

-- all states reached have a leaf with choice c
abbrev pub ends_on : Task → Level → List ℕ → ℕ → Bool
ends_on k l row c = all_reached (λ (q : ℕ). is_some (transition_row k.sides.image.masks.now k.sides.image.first.now q c)) row l.from l.to

-- the block where the walk stands
pub record BlockOf (k : Task) (w : Walk) (place : Place) (b : Block) : Type 0 where
  pub from : b.from ≡ place.level.from
  pub to : b.to ≡ place.level.to
  pub p : b.p ≡ place.p
  pub wide : b.wide ≡ k.sides.wide
  pub plane : b.plane ≡ k.plane
  pub room : b.room ≡ k.room
  pub cells : b.cells ≡ row_cells
  pub row : b.row.now ≡ w.reached.now
  pub stack : b.stack.now ≡ w.stack.now

-- the rows stay the same ones, with their lengths
pub record SameRows (w w' : Walk) : Type 0 where
  pub may_same : w'.may.ghost_name ≡ w.may.ghost_name
  pub met_same : w'.met.ghost_name ≡ w.met.ghost_name
  pub stack_same : w'.stack.ghost_name ≡ w.stack.ghost_name
  pub reached_same : w'.reached.ghost_name ≡ w.reached.ghost_name
  pub may : length w'.may.now ≡ length w.may.now
  pub met : length w'.met.now ≡ length w.met.now
  pub stack : length w'.stack.now ≡ length w.stack.now
  pub reached : length w'.reached.now ≡ length w.reached.now

-- and the search's rows alone were written
pub record OnlyMarks (w w' : Walk) : Type 0 where
  pub rows : SameRows w w'
  pub stack : w'.stack.now ≡ w.stack.now
  pub reached : w'.reached.now ≡ w.reached.now

-- the word ends with choice c on the last level
abbrev pub EndingOn : Task → Walk → Place → ℕ → List ℕ → ℕ → Type 0
EndingOn k w p root word c = Ending k.sides.image.rows.now k.sides.image.masks.now k.sides.image.coefs.now k.sides.image.counts.now k.sides.image.first.now k.sides.end.rows.now k.sides.end.masks.now k.sides.end.coefs.now k.sides.end.counts.now k.sides.end.first.now k.sides.wide k.plane k.room k.n p.p p.level root word w.stack.now (length w.may.now) (length w.met.now) (length w.reached.now) c

-- each word that goes on with m choices after place `at`, the first of them from `lo` up to below `hi`, is found from the block
abbrev pub CleanOn : Task → ℕ → ℕ → Place → List ℕ → List ℕ → ℕ → ℕ → Type 0
CleanOn k at m p row stack lo hi = Clean k.sides.image.rows.now k.sides.image.masks.now k.sides.image.coefs.now k.sides.image.first.now k.sides.end.rows.now k.sides.end.masks.now k.sides.end.coefs.now k.sides.end.first.now k.sides.wide k.plane at m p.p p.level row stack lo hi
