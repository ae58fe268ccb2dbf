-- Document 01, "States are numbered from 0, level by level": where the states of a level begin, and the numbers of both sets' states on it.
use Rattle.std.specs.Prelude.{◌≡◌, List, ℕ, zero, suc, ◌+◌, ◌<◌, ◌≤◌, length, get_or}
use Rattle.meeting.specs.declared.Level.{Level}

-- the first state past the first `at` levels
unfoldable pub start_of : List ℕ → ℕ → ℕ
start_of counts zero = 0
start_of counts (suc at) = start_of counts at + get_or counts at 0

-- the state's number stands among those of level at + 1
pub record Among (counts : List ℕ) (at s : ℕ) : Type 0 where
  pub after : start_of counts at ≤ s
  pub before : s < start_of counts (suc at)

-- the states of both sets on level at + 1
pub record IsLevel (counts end_counts : List ℕ) (at : ℕ) (l : Level) : Type 0 where
  pub from : l.from ≡ start_of counts at
  pub to : l.to ≡ start_of counts (suc at)
  pub start : l.start ≡ start_of end_counts at
  pub stop : l.stop ≡ start_of end_counts (suc at)

-- the level after level at + 1 is there, and its states have numbers of 16 bits
pub record NextFits (counts end_counts : List ℕ) (at : ℕ) : Type 0 where
  pub there : at + 1 < length counts
  pub end_there : at + 1 < length end_counts
  pub small : start_of counts (suc (suc at)) < 65536
  pub end_small : start_of end_counts (suc (suc at)) < 65536
