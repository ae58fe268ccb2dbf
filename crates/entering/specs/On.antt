-- What is said of slices at a block and between two roots, said of a task, of the rows that a walk writes, of the slots, and of its place.
use Rattle.std.specs.Prelude.{Bool, List, ℕ, length}
use Rattle.remembering.specs.declared.Slots.{Slots}
use Rattle.remembering.specs.Memory.{Saying, Memory}
use Rattle.matching.specs.Levels.{start_of}
use Rattle.walking.specs.declared.Task.{Task}
use Rattle.blocks.specs.Good.{good}
use Rattle.blocks.specs.Block.{row_cells, Started, Entered, Strode}
use Rattle.outcomes.specs.declared.Place.{Place}
use Rattle.outcomes.specs.declared.Walk.{Walk}

-- what is remembered of a block
abbrev pub good_on : Task → Saying
good_on k = good k.sides.image.rows.now k.sides.image.masks.now k.sides.image.coefs.now k.sides.image.counts.now k.sides.image.first.now k.sides.end.rows.now k.sides.end.masks.now k.sides.end.coefs.now k.sides.end.counts.now k.sides.end.first.now k.sides.wide k.plane k.n

-- every block that is remembered is such a block
abbrev pub MemoryOn : Task → Slots → Type 0
MemoryOn k s = Memory k.sides.wide k.plane k.room row_cells s.count (start_of k.sides.image.counts.now) (good_on k) s.seen.now s.rows.now s.kept.now

-- between two roots: both tables, the buffers, and what is remembered
abbrev pub StartedOn : Task → Walk → Slots → Type 0
StartedOn k w s = Started k.sides.image.rows.now k.sides.image.masks.now k.sides.image.coefs.now k.sides.image.counts.now k.sides.image.first.now k.sides.end.rows.now k.sides.end.masks.now k.sides.end.coefs.now k.sides.end.counts.now k.sides.end.first.now k.sides.wide k.plane k.room s.count k.n s.seen.now s.rows.now s.kept.now (length k.free.now) (length w.may.now) (length w.met.now) (length w.stack.now) (length s.turn.now) (length w.reached.now)

-- the walk stands at the block, with the root and the word so far
abbrev pub EnteredOn : Task → Walk → Slots → Place → ℕ → List ℕ → Type 0
EnteredOn k w s p root word = Entered k.sides.image.rows.now k.sides.image.masks.now k.sides.image.coefs.now k.sides.image.counts.now k.sides.image.first.now k.sides.end.rows.now k.sides.end.masks.now k.sides.end.coefs.now k.sides.end.counts.now k.sides.end.first.now k.sides.wide k.plane k.room s.count k.n p.at p.left p.p p.level root word w.stack.now s.seen.now s.rows.now s.kept.now (length k.free.now) (length w.may.now) (length w.met.now) (length s.turn.now) (length w.reached.now)

-- after the words of choices from `lo` up to below `hi`, where there are so many slots
abbrev pub StrodeOn : Task → Place → Walk → Walk → ℕ → Slots → ℕ → ℕ → Bool → Type 0
StrodeOn k p w w' count s' lo hi clean = Strode k.sides.image.rows.now k.sides.image.masks.now k.sides.image.coefs.now k.sides.image.counts.now k.sides.image.first.now k.sides.end.rows.now k.sides.end.masks.now k.sides.end.coefs.now k.sides.end.counts.now k.sides.end.first.now k.sides.wide k.plane k.room count k.n p.at p.left p.p p.level w.reached.now w.stack.now lo hi clean w'.reached.now w'.stack.now s'.seen.now s'.rows.now s'.kept.now
