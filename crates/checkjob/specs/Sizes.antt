-- The check's work buffers: their order, and the named size of each in cells (docs/BUFFERS.md).
use Rattle.std.specs.Prelude.{List, [], ◌∷◌, ℕ, ◌≤◌, length}
use Rattle.jobs.specs.Buffers.{Buffer, unsigned}
use Rattle.buffers.specs.Sizes.{marks_size, hints_size}

-- the rows of the last phase; tables and keys are the job's own
abbrev pub check_sizes : List ℕ
check_sizes = marks_size ∷ marks_size ∷ marks_size ∷ hints_size ∷ []

abbrev pub check_lent : List ℕ → List ℕ → List ℕ → List ℕ → List Buffer
check_lent met stack kept hints = unsigned met ∷ unsigned stack ∷ unsigned kept ∷ unsigned hints ∷ []

-- each has its named size or more
pub record Long (met stack kept hints : List ℕ) : Type 0 where
  pub met_long : marks_size ≤ length met
  pub stack_long : marks_size ≤ length stack
  pub kept_long : marks_size ≤ length kept
  pub hints_long : hints_size ≤ length hints
