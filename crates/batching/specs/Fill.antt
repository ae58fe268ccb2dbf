-- Relations of the next level from those of a level: what making them asks, and what it leaves.
use Rattle.std.specs.Prelude.{◌≡◌, true, List, ◌⊎◌, ℕ, suc, ◌+◌, ◌*◌, ◌<◌, ◌≤◌, ℤ, length, get_or}
use Rattle.lookup.specs.Alts.{table_automaton}
use Rattle.meeting.specs.declared.Level.{Level}
use Rattle.batching.specs.declared.Step.{Step}
use Rattle.stepping.specs.Step.{Stage}
use Rattle.matching.specs.Seeking.{sought}
use Rattle.relating.specs.Found.{found}

-- the children of the level's states are states of the next level, whose pairs have their places in a plane, in the row of pairs that could
-- match, and in a spare row
pub record Ground (rows masks first end_rows end_masks end_first : List ℕ) (wide plane may spare : ℕ) (l next : Level) : Type 0 where
  pub levels : l.from ≤ l.to
  pub stage : Stage rows masks first end_rows end_masks end_first wide plane l next
  pub fits : next.to * wide ≤ may
  pub long : plane ≤ spare

-- in every plane the words of the level, and of those before it, are what they were
pub record Low (wide plane : ℕ) (l : Level) (stack stack' : List ℕ) : Type 0 where
  pub each : (j i : ℕ) → i < l.to * wide → get_or stack' (j * plane + i) 0 ≡ get_or stack (j * plane + i) 0

-- relations of the next level were added, up to r of them: a word found from them after choice c was found before, or is found from the
-- relation `met` of the level
pub record Grown (rows masks first end_rows end_masks end_first : List ℕ) (c wide plane : ℕ) (stack : List ℕ) (q most : ℕ) (met : List ℕ) (l next : Level) (stack' : List ℕ) (r : ℕ) : Type 0 where
  pub least : q ≤ r
  pub few : r ≤ most
  pub low : Low wide plane l stack stack'
  pub is : (coefs end_coefs : List ℤ) (word : List ℕ) (at m : ℕ) → get_or word at 0 ≡ c
      → found (table_automaton rows masks coefs first) (table_automaton end_rows end_masks end_coefs end_first) word (at + 1) m wide plane stack' r next ≡ true
      → (found (table_automaton rows masks coefs first) (table_automaton end_rows end_masks end_coefs end_first) word (at + 1) m wide plane stack q next ≡ true)
      ⊎ (sought (table_automaton rows masks coefs first) (table_automaton end_rows end_masks end_coefs end_first) word at (suc m) wide met l ≡ true)

-- q relations of the next level: a word found from them after choice c is found from the p relations of the level
pub record Filled (rows masks first end_rows end_masks end_first : List ℕ) (c wide plane : ℕ) (stack : List ℕ) (p room : ℕ) (l next : Level) (stack' : List ℕ) (q : ℕ) : Type 0 where
  pub few : q ≤ room
  pub low : Low wide plane l stack stack'
  pub sound : (coefs end_coefs : List ℤ) (word : List ℕ) (at m : ℕ) → get_or word at 0 ≡ c
      → found (table_automaton rows masks coefs first) (table_automaton end_rows end_masks end_coefs end_first) word (at + 1) m wide plane stack' q next ≡ true
      → found (table_automaton rows masks coefs first) (table_automaton end_rows end_masks end_coefs end_first) word at (suc m) wide plane stack p l ≡ true

-- ---- of a step
abbrev pub GroundOn : Step → ℕ → Type 0
GroundOn t spare = Ground t.sides.image.rows.now t.sides.image.masks.now t.sides.image.first.now t.sides.end.rows.now t.sides.end.masks.now t.sides.end.first.now t.sides.wide t.plane (length t.may.now) spare t.level t.next

abbrev pub GrownOn : Step → List ℕ → ℕ → ℕ → List ℕ → List ℕ → ℕ → Type 0
GrownOn t stack q most met stack' r = Grown t.sides.image.rows.now t.sides.image.masks.now t.sides.image.first.now t.sides.end.rows.now t.sides.end.masks.now t.sides.end.first.now t.c t.sides.wide t.plane stack q most met t.level t.next stack' r
