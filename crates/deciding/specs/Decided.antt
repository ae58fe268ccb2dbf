-- Document 01, "then gate by gate 15, 14, 16": a check whose files are all good, over any bounds: its gates, and then the verdict.
use Rattle.std.specs.Prelude.{◌≡◌, List, ℕ, ◌+◌, ◌*◌, ◌<◌, ◌≤◌, length}
use Rattle.automata.specs.Sets.{QSet}
use Rattle.stored.specs.Refusal.{Judged, good, on_good}
use Rattle.stored.specs.Rules.{Bounds}
use Rattle.gates.specs.Refuse.{after_gates}
use Rattle.jobs.specs.Check.{Ready, answer}
use Rattle.jobs.specs.Reply.{Reply, reply_of}
use Rattle.gates.proofs.Fits.{AllFit}
use Rattle.building.specs.declared.Room.{Room}
use Rattle.applying.specs.Result.{bounds_from}
use Rattle.carrying.specs.Tables.{Table, StandsOn, LentOn}
use Rattle.carrying.specs.Carried.{Readable, gates_from}
use Rattle.tables.specs.Table.{leaf_width}
use Rattle.buffers.specs.Sizes.{masks_size, coefs_size, first_size, marks_size, hints_size}
use Rattle.preparing.specs.declared.Files.{Files}
use Rattle.preparing.specs.Prepared.{files_judged}

-- the gates, after files that are good
unfoldable pub gates_judged : Bounds → Ready → Judged Ready
gates_judged b J = on_good (after_gates b 1 J.gates J.start) (λ P. good J)

-- the reply to files that are good
abbrev pub decided : Bounds → Ready → ℕ → Reply
decided b J most = reply_of (answer most) (gates_judged b J)

-- the reply to any files
unfoldable pub checked_by : Bounds → Bounds → List ℕ → List ℕ → List ℕ → ℕ → Reply
checked_by b eb s c e most = reply_of (answer most) (on_good (files_judged b eb s c e) (gates_judged b))

-- the rows of the last phase, with a word of marks for 32 pairs of an image state and an end state: relations of the search, relations along a
-- word, and relations that are remembered; and bytes for the states of the blocks that are remembered
pub record LastRows (met stack kept hints : List ℕ) : Type 0 where
  pub met_long : marks_size ≤ length met
  pub stack_long : marks_size ≤ length stack
  pub kept_long : marks_size ≤ length kept
  pub hints_long : hints_size ≤ length hints

-- the room fits the arrays in which the gates build (crate buffers)
pub record Roomed (room : Room) : Type 0 where
  pub states : room.states < first_size
  pub records : room.inner + room.leaves ≤ masks_size
  pub leaves : room.leaves * leaf_width ≤ coefs_size

-- what the gates and the walk ask: the start set in table A, a room that fits, the end set in table E with as many qubits, at most 128 end states,
-- and the rows of the last phase
pub record Deciding (circuit : List ℕ) (files : Files) (A E : Table) (met stack kept hints : List ℕ) (room : Room) : Type 0 where
  pub readable : Readable files.form.n circuit 0 files.count
  pub fit : AllFit files.form.n (gates_from files.form.n circuit 0 files.count)
  pub start : StandsOn A files.form (bounds_from room)
  pub one : LentOn A files.form.n room
  pub roomed : Roomed room
  pub bounds : Bounds
  pub end : StandsOn E files.endform bounds
  pub qubits : files.endform.n ≡ files.form.n
  pub narrow : bounds.states ≤ 128
  pub rows : LastRows met stack kept hints
