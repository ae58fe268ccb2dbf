-- The walk at a block: what it asks of the tables, the buffers and the memory there, and what it leaves.
use Rattle.std.specs.Prelude.{◌≡◌, Bool, true, List, ℕ, suc, ◌*◌, ◌<◌, ◌≤◌, ℤ, length, get_or, Option}
use Rattle.automata.specs.Choice.{choices_most}
use Rattle.fitting.specs.Fit.{LeafStage}
use Rattle.meeting.specs.declared.Level.{Level}
use Rattle.matching.specs.Levels.{start_of, IsLevel}
use Rattle.matching.specs.Seeking.{Lent}
use Rattle.reaching.specs.Reached.{Kept, Ended}
use Rattle.batching.specs.Fill.{Low}
use Rattle.remembering.specs.declared.Seen.{Seen}
use Rattle.remembering.specs.Memory.{levels_most, Memory}
use Rattle.judging.specs.Judge.{Spaced}
use Rattle.walking.specs.Walk.{spare_words, Both, Visiting}
use Rattle.blocks.specs.Good.{good, Clean, OnPath}

-- bytes of a remembered row: one for each state of the image
abbrev pub row_cells : ℕ
row_cells = 1024

-- how long the lent buffers are: a plane has the words of all pairs, and so have both rows of marks; planes lie in the stack and, for the search,
-- in `met`, slots in theirs
pub record Sized (counts : List ℕ) (n wide plane room slots free met stack kept hints seen turn : ℕ) : Type 0 where
  pub long : start_of counts (suc n) * wide ≤ plane
  pub some : 0 < room
  pub flat : plane ≤ spare_words
  pub spare : plane ≤ met
  pub batches : room * plane ≤ met
  pub hinted : start_of counts (suc n) * wide ≤ free
  pub planes : room * plane ≤ stack
  pub short : start_of counts (suc n) ≤ row_cells
  pub in_kept : slots * (room * plane) ≤ kept
  pub in_hints : slots * row_cells ≤ hints
  pub in_seen : slots * levels_most ≤ seen
  pub turns : levels_most ≤ turn

-- between two roots: both tables, the buffers, and what is remembered
pub record Started (rows masks : List ℕ) (coefs : List ℤ) (counts first end_rows end_masks : List ℕ) (end_coefs : List ℤ) (end_counts end_first : List ℕ) (wide plane room slots n : ℕ) (seen : List (Option Seen)) (hints kept : List ℕ) (free may met stack turn cells : ℕ) : Type 0 where
  pub both : Both rows masks coefs counts first end_rows end_masks end_coefs end_counts end_first wide may cells n
  pub sized : Sized counts n wide plane room slots free met stack (length kept) (length hints) (length seen) turn
  pub memory : Memory wide plane room row_cells slots (start_of counts) (good rows masks coefs counts first end_rows end_masks end_coefs end_counts end_first wide plane n) seen hints kept

-- the walk stands at a block of level at + 1 with p relations, and m qubits are left from there on
pub record Entered (rows masks : List ℕ) (coefs : List ℤ) (counts first end_rows end_masks : List ℕ) (end_coefs : List ℤ) (end_counts end_first : List ℕ) (wide plane room slots n at m p : ℕ) (l : Level) (root : ℕ) (word stack : List ℕ) (seen : List (Option Seen)) (hints kept : List ℕ) (free may met turn cells : ℕ) : Type 0 where
  pub visiting : Visiting rows masks coefs counts first end_rows end_masks end_coefs end_counts end_first wide may cells n at m l.from l.to root word
  pub here : IsLevel counts end_counts at l
  pub sized : Sized counts n wide plane room slots free met (length stack) (length kept) (length hints) (length seen) turn
  pub few : p ≤ room
  pub path : OnPath rows masks coefs first end_rows end_masks end_coefs end_counts end_first wide plane n at m p l root word stack
  pub memory : Memory wide plane room row_cells slots (start_of counts) (good rows masks coefs counts first end_rows end_masks end_coefs end_counts end_first wide plane n) seen hints kept

-- the word ends with choice c on the last level
pub record Ending (rows masks : List ℕ) (coefs : List ℤ) (counts first end_rows end_masks : List ℕ) (end_coefs : List ℤ) (end_counts end_first : List ℕ) (wide plane room n p : ℕ) (l : Level) (root : ℕ) (word stack : List ℕ) (may met cells c : ℕ) : Type 0 where
  pub lent : Lent rows masks coefs counts first end_rows end_masks end_coefs end_counts end_first word wide plane n
  pub hinted : Lent rows masks coefs counts first end_rows end_masks end_coefs end_counts end_first word wide may n
  pub space : Spaced plane room 0 met spare_words
  pub rooted : root < get_or counts 0 0
  pub leaves : (s : ℕ) → l.from ≤ s → s < l.to → Ended masks first s
  pub celled : l.to ≤ cells
  pub stage : LeafStage rows masks coefs first end_rows end_masks end_coefs end_first wide plane l
  pub planes : p * plane ≤ length stack
  pub path : OnPath rows masks coefs first end_rows end_masks end_coefs end_counts end_first wide plane n n 0 p l root word stack
  pub small : c < choices_most
  pub letter : get_or word n 0 ≡ c

-- after the words of choices from `lo` up to below `hi`: the level's states and marks are what they were, what is remembered holds, and if it was
-- clean, each of the words is found from the block
pub record Strode (rows masks : List ℕ) (coefs : List ℤ) (counts first end_rows end_masks : List ℕ) (end_coefs : List ℤ) (end_counts end_first : List ℕ) (wide plane room slots n at m p : ℕ) (l : Level) (row stack : List ℕ) (lo hi : ℕ) (clean : Bool) (row' stack' : List ℕ) (seen' : List (Option Seen)) (hints' kept' : List ℕ) : Type 0 where
  pub reached : Kept row l.to row'
  pub marks : Low wide plane l stack stack'
  pub memory : Memory wide plane room row_cells slots (start_of counts) (good rows masks coefs counts first end_rows end_masks end_coefs end_counts end_first wide plane n) seen' hints' kept'
  pub found : clean ≡ true → Clean rows masks coefs first end_rows end_masks end_coefs end_first wide plane at m p l row stack lo hi
