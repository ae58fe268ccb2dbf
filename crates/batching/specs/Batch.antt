-- Relations of the next level in batches, none of which is left out: what making a batch leaves.
use Rattle.std.specs.Prelude.{◌≡◌, true, false, List, ℕ, ◌+◌, ◌*◌, ◌<◌, ◌≤◌, ℤ, get_or}
use Rattle.automata.specs.Tree.{Automaton}
use Rattle.lookup.specs.Alts.{table_automaton}
use Rattle.meeting.specs.declared.Level.{Level}
use Rattle.batching.specs.declared.Step.{Step}
use Rattle.meeting.specs.Met.{is_met}
use Rattle.meeting.specs.All.{all_met}
use Rattle.matching.specs.Seeking.{sought, tried}
use Rattle.relating.specs.Found.{plane_of, found}
use Rattle.relating.specs.Planes.{Added}
use Rattle.batching.specs.Fill.{Grown, Filled}

-- the marks have all pairs of every relation of the level that leads to a word, by the image's choices from place `at` on
pub record Wise (S E : Automaton ℕ) (word : List ℕ) (at m wide : ℕ) (may : List ℕ) (l : Level) : Type 0 where
  pub each : (met : List ℕ) → all_met (is_met wide may) wide met l ≡ false → false ≡ sought S E word at m wide met l

-- one of the first q planes has the row's words from `at` on, `count` of them
pub record Stands (stack : List ℕ) (plane q : ℕ) (row : List ℕ) (at count : ℕ) : Type 0 where
  pub which : ℕ
  pub before : which < q
  pub same : (i : ℕ) → i < count → get_or stack (which * plane + at + i) 0 ≡ get_or row (at + i) 0

-- one plane more or none, and one of them has the row's words of the level
pub record Joined (plane wide : ℕ) (stack : List ℕ) (q : ℕ) (row : List ℕ) (l : Level) (stack' : List ℕ) (r : ℕ) : Type 0 where
  pub added : Added plane wide stack q row l stack' r
  pub which : ℕ
  pub before : which < r
  pub same : (i : ℕ) → l.from * wide ≤ i → i < l.to * wide → get_or stack' (which * plane + i) 0 ≡ get_or row i 0

-- r relations of the next level now: what was found from q of them is found, and what is found from `met` by a choice from `from` up to below
-- `to`
pub record Whole (rows masks first end_rows end_masks end_first : List ℕ) (c wide plane : ℕ) (may stack : List ℕ) (q : ℕ) (met : List ℕ) (l next : Level) (from to : ℕ) (stack' : List ℕ) (r : ℕ) : Type 0 where
  pub keeps : (S E : Automaton ℕ) (word : List ℕ) (at m : ℕ) → found S E word at m wide plane stack q next ≡ true → found S E word at m wide plane stack' r next ≡ true
  pub each : (coefs end_coefs : List ℤ) (word : List ℕ) (at m : ℕ) → get_or word at 0 ≡ c
      → Wise (table_automaton rows masks coefs first) (table_automaton end_rows end_masks end_coefs end_first) word (at + 1) m wide may next
      → (d : ℕ) → from ≤ d → d < to → tried (table_automaton rows masks coefs first) (table_automaton end_rows end_masks end_coefs end_first) word at m d wide met l ≡ true
      → found (table_automaton rows masks coefs first) (table_automaton end_rows end_masks end_coefs end_first) word (at + 1) m wide plane stack' r next ≡ true

-- the choices from `from` up to below `to` were tried: all that are left, or as many as there was room for
pub record Took (rows masks first end_rows end_masks end_first : List ℕ) (c wide plane : ℕ) (may stack : List ℕ) (q room : ℕ) (met : List ℕ) (l next : Level) (from to : ℕ) (stack' : List ℕ) (r : ℕ) : Type 0 where
  pub grown : Grown rows masks first end_rows end_masks end_first c wide plane stack q room met l next stack' r
  pub whole : Whole rows masks first end_rows end_masks end_first c wide plane may stack q met l next from to stack' r
  pub moves : from < 32 → q < room → from < to
  pub most : to ≤ 32

-- the places from `from` up to below `to` were tried, of the first p relations and all choices: place 32 * k + d is choice d from relation k
pub record Batched (rows masks first end_rows end_masks end_first : List ℕ) (c wide plane : ℕ) (may stack : List ℕ) (p room : ℕ) (l next : Level) (from to : ℕ) (stack' : List ℕ) (r : ℕ) : Type 0 where
  pub filled : Filled rows masks first end_rows end_masks end_first c wide plane stack p room l next stack' r
  pub moves : from < p * 32 → 0 < room → from < to
  pub each : (coefs end_coefs : List ℤ) (word : List ℕ) (at m : ℕ) → get_or word at 0 ≡ c
      → Wise (table_automaton rows masks coefs first) (table_automaton end_rows end_masks end_coefs end_first) word (at + 1) m wide may next
      → (k d : ℕ) → d < 32 → from ≤ k * 32 + d → k * 32 + d < to
      → tried (table_automaton rows masks coefs first) (table_automaton end_rows end_masks end_coefs end_first) word at m d wide (plane_of plane stack k) l ≡ true
      → found (table_automaton rows masks coefs first) (table_automaton end_rows end_masks end_coefs end_first) word (at + 1) m wide plane stack' r next ≡ true

-- ---- of a step
abbrev pub WholeOn : Step → List ℕ → ℕ → List ℕ → ℕ → ℕ → List ℕ → ℕ → Type 0
WholeOn t stack q met from to stack' r = Whole t.sides.image.rows.now t.sides.image.masks.now t.sides.image.first.now t.sides.end.rows.now t.sides.end.masks.now t.sides.end.first.now t.c t.sides.wide t.plane t.may.now stack q met t.level t.next from to stack' r

abbrev pub TookOn : Step → List ℕ → ℕ → List ℕ → ℕ → ℕ → List ℕ → ℕ → Type 0
TookOn t stack q met from to stack' r = Took t.sides.image.rows.now t.sides.image.masks.now t.sides.image.first.now t.sides.end.rows.now t.sides.end.masks.now t.sides.end.first.now t.c t.sides.wide t.plane t.may.now stack q t.room met t.level t.next from to stack' r

abbrev pub BatchedOn : Step → List ℕ → ℕ → ℕ → ℕ → List ℕ → ℕ → Type 0
BatchedOn t stack p from to stack' r = Batched t.sides.image.rows.now t.sides.image.masks.now t.sides.image.first.now t.sides.end.rows.now t.sides.end.masks.now t.sides.end.first.now t.c t.sides.wide t.plane t.may.now stack p t.room t.level t.next from to stack' r
