-- A block is what a walk has reached on a level: states of the image, as bytes of a row, and relations to end states, as planes of a stack. What
-- is remembered of it speaks of both sets only, of no root, no earlier choice and no allowance, so that it holds wherever the block is met.
use Rattle.std.specs.Prelude.{◌≡◌, Bool, true, ◌&&◌, List, [], ◌∷◌, ℕ, suc, ◌-◌, ◌<◌, ◌≤◌, eqb, ℤ, length, get_or, replicate}
use Rattle.automata.specs.Choice.{choices_most}
use Rattle.automata.specs.Tree.{Automaton}
use Rattle.automata.specs.Members.{Member, member}
use Rattle.jobs.specs.Reply.{word_places}
use Rattle.lookup.specs.Alts.{table_automaton}
use Rattle.meeting.specs.declared.Level.{Level}
use Rattle.matching.specs.Levels.{start_of}
use Rattle.matching.specs.Seeking.{word_from}
use Rattle.relating.specs.Found.{found}
use Rattle.relating.specs.Roots.{Whole}
use Rattle.remembering.specs.Memory.{Saying}
use Rattle.walking.specs.Walk.{trees_by, visit_of, passes_in}

-- every member of the list passes
unfoldable pub all_of : (Member → Bool) → List Member → Bool
all_of f [] = true
all_of f (m ∷ ms) = f m && all_of f ms

-- the states of both sets on level at + 1
abbrev pub level_of : List ℕ → List ℕ → ℕ → Level
level_of counts end_counts at = record { from = start_of counts at; to = start_of counts (suc at); start = start_of end_counts at; stop = start_of end_counts (suc at) }

-- the member's word is found, from place `at` on, from the first p relations
abbrev pub found_in : Automaton ℕ → Automaton ℕ → ℕ → ℕ → ℕ → ℕ → List ℕ → ℕ → Level → Member → Bool
found_in S E at m wide plane stack p l (member r w) = found S E w at m wide plane stack p l

module _ (rows masks : List ℕ) (coefs : List ℤ) (counts first end_rows end_masks : List ℕ) (end_coefs : List ℤ) (end_counts end_first : List ℕ) (wide plane n : ℕ) where
  -- the words that go on from level at + 1, each after zeros
  abbrev pub words_of : ℕ → List ℕ → List Member
  words_of at row = visit_of rows masks coefs first 0 (replicate word_places 0) at (n - at) row (start_of counts at) (start_of counts (suc at))

  -- each of them is found from the block's first p relations, and there are k of them
  unfoldable pub good : Saying
  good at p row stack k =
      all_of (found_in (table_automaton rows masks coefs first) (table_automaton end_rows end_masks end_coefs end_first) at (n - at) wide plane stack p (level_of counts end_counts at)) (words_of at row)
      && eqb (length (words_of at row)) k

-- each word that goes on from level at + 1 with a choice from `lo` up to below `hi` is found from the block
pub record Clean (rows masks : List ℕ) (coefs : List ℤ) (first end_rows end_masks : List ℕ) (end_coefs : List ℤ) (end_first : List ℕ) (wide plane at m p : ℕ) (l : Level) (row stack : List ℕ) (lo hi : ℕ) : Type 0 where
  pub each : (w : List ℕ) → ((i : ℕ) → get_or w i 0 < choices_most) → lo ≤ get_or w at 0 → get_or w at 0 < hi
      → trees_by rows masks coefs first at m row l.from l.to (word_from w at m) ≡ true
      → found (table_automaton rows masks coefs first) (table_automaton end_rows end_masks end_coefs end_first) w at m wide plane stack p l ≡ true

-- a word that has the walk's choices so far, and is found from the block, passes
pub record OnPath (rows masks : List ℕ) (coefs : List ℤ) (first end_rows end_masks : List ℕ) (end_coefs : List ℤ) (end_counts end_first : List ℕ) (wide plane n at m p : ℕ) (l : Level) (root : ℕ) (word stack : List ℕ) : Type 0 where
  pub each : (w : List ℕ) → Whole w n → ((i : ℕ) → i < at → get_or w i 0 ≡ get_or word i 0)
      → found (table_automaton rows masks coefs first) (table_automaton end_rows end_masks end_coefs end_first) w at m wide plane stack p l ≡ true
      → passes_in rows masks coefs first end_rows end_masks end_coefs end_counts end_first n (member root w) ≡ true
