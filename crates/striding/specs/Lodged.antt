-- What the walk that remembers asks of its caller, and how the buffers are shared out.
use Rattle.std.specs.Prelude.{◌≡◌, List, ℕ, suc, ◌*◌, ◌<◌, ◌≤◌, ℤ}
use Rattle.tables.specs.Slices.{Table}
use Rattle.meeting.specs.declared.Sides.{Sides}
use Rattle.matching.specs.Levels.{start_of}
use Rattle.matching.specs.Seeking.{Held}
use Rattle.striding.specs.declared.Shares.{Shares}

-- both tables hold well-formed sets of n qubits, of at most 1,024 and 128 states, and the lent buffers are so long
pub record Lodged (rows masks : List ℕ) (coefs : List ℤ) (counts first end_rows end_masks : List ℕ) (end_coefs : List ℤ) (end_counts end_first : List ℕ) (met stack kept hints n : ℕ) : Type 0 where
  pub image : Held rows masks coefs counts first n
  pub ends : Held end_rows end_masks end_coefs end_counts end_first n
  pub small : start_of counts (suc n) ≤ 1024
  pub narrow : start_of end_counts (suc n) ≤ 128
  pub marks : 16384 ≤ met
  pub planes : 16384 ≤ stack
  pub slots : 16384 ≤ kept
  pub cells : 32768 ≤ hints

-- so many words to a state of the image have a mark for each end state; a plane has the words of all states, the stack `room` planes, and there
-- are so many slots of a stack each
pub record Shared (states ends wide plane room slots : ℕ) : Type 0 where
  pub narrow : ends ≤ wide * 32
  pub few : wide ≤ 4
  pub is : plane ≡ states * wide
  pub some : 0 < room
  pub planes : room * plane ≤ 16384
  pub most : slots ≤ 16
  pub stacks : slots * (room * plane) ≤ 16384

-- ---- of tables
abbrev pub LodgedOn : Table → Table → ℕ → ℕ → ℕ → ℕ → ℕ → Type 0
LodgedOn t e met stack kept hints n = Lodged t.rows t.masks t.coefs t.counts t.first e.rows e.masks e.coefs e.counts e.first met stack kept hints n

abbrev pub SharedOn : Sides → Shares → ℕ → Type 0
SharedOn t h n = Shared (start_of t.image.counts.now (suc n)) (start_of t.end.counts.now (suc n)) t.wide h.plane h.room h.slots
