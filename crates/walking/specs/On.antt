-- What the walk's definitions say of slices, said of a task.
use Rattle.std.specs.Prelude.{Bool, List, ℕ, ◌<◌, get_or}
use Rattle.automata.specs.Members.{Member}
use Rattle.matching.specs.On.{LentOn}
use Rattle.judging.specs.Judge.{Spaced}
use Rattle.walking.specs.declared.Task.{Task}
use Rattle.walking.specs.Walk.{trees_by, branch_of, visit_of, root_of, passes_in, spare_words, Both}

-- the member's tree is a state of the end set
abbrev pub passes_on : Task → Member → Bool
passes_on k = passes_in k.sides.image.rows.now k.sides.image.masks.now k.sides.image.coefs.now k.sides.image.first.now k.sides.end.rows.now k.sides.end.masks.now k.sides.end.coefs.now k.sides.end.counts.now k.sides.end.first.now k.n

-- ---- the members that go on, as on the lists of a table
abbrev pub trees_on : Task → ℕ → ℕ → List ℕ → ℕ → ℕ → List ℕ → Bool
trees_on k = trees_by k.sides.image.rows.now k.sides.image.masks.now k.sides.image.coefs.now k.sides.image.first.now

abbrev pub branch_on : Task → ℕ → List ℕ → ℕ → ℕ → List ℕ → ℕ → ℕ → ℕ → List Member
branch_on k = branch_of k.sides.image.rows.now k.sides.image.masks.now k.sides.image.coefs.now k.sides.image.first.now

abbrev pub visit_on : Task → ℕ → List ℕ → ℕ → ℕ → List ℕ → ℕ → ℕ → List Member
visit_on k = visit_of k.sides.image.rows.now k.sides.image.masks.now k.sides.image.coefs.now k.sides.image.first.now

abbrev pub root_on : Task → ℕ → List Member
root_on k = root_of k.sides.image.rows.now k.sides.image.masks.now k.sides.image.coefs.now k.sides.image.first.now k.n

-- ---- what is asked
-- both tables, room for so many marks of pairs, and so many cells
abbrev pub BothOn : Task → ℕ → ℕ → Type 0
BothOn k hints cells = Both k.sides.image.rows.now k.sides.image.masks.now k.sides.image.coefs.now k.sides.image.counts.now k.sides.image.first.now k.sides.end.rows.now k.sides.end.masks.now k.sides.end.coefs.now k.sides.end.counts.now k.sides.end.first.now k.sides.wide hints cells k.n

-- for the test of a member: both tables, its word, a row of marks and a row of planes
pub record TestedOn (k : Task) (word : List ℕ) (root may met : ℕ) : Type 0 where
  pub lent : LentOn k.sides word k.plane k.n
  pub hinted : LentOn k.sides word may k.n
  pub space : Spaced k.plane k.room 0 met spare_words
  pub rooted : root < get_or k.sides.image.counts.now 0 0
