-- An end state has a transition with a choice; and what looking up the choices of the end states of a level asks.
use Rattle.std.specs.Prelude.{Bool, List, ℕ, ◌+◌, ◌<◌, ◌≤◌, length, get_or}
use Rattle.automata.specs.Choice.{has}
use Rattle.lookup.specs.Lookup.{choices_of}
use Rattle.meeting.specs.declared.Level.{Level}
use Rattle.meeting.specs.declared.Sides.{Sides}
use Rattle.meeting.specs.Met.{There}

-- end state e has choice d, whatever image state meets it
abbrev pub has_choice : List ℕ → List ℕ → ℕ → ℕ → ℕ → Bool
has_choice end_masks end_first d s e = has (choices_of end_masks end_first e) d

-- the pair has its place in the row of marks, and the rows of end state e are there
pub record Open (end_masks end_first : List ℕ) (wide size s e : ℕ) : Type 0 where
  pub there : There wide size s e
  pub begun : e + 1 < length end_first
  pub long : get_or end_first (e + 1) 0 ≤ length end_masks

pub record RowOpen (end_masks end_first : List ℕ) (wide size s start stop : ℕ) : Type 0 where
  pub each : (e : ℕ) → start ≤ e → e < stop → Open end_masks end_first wide size s e

pub record LevelOpen (end_masks end_first : List ℕ) (wide size : ℕ) (l : Level) : Type 0 where
  pub each : (s e : ℕ) → l.from ≤ s → s < l.to → l.start ≤ e → e < l.stop → Open end_masks end_first wide size s e

-- ---- of both tables
abbrev pub has_choice_on : Sides → ℕ → ℕ → ℕ → Bool
has_choice_on t d = has_choice t.end.masks.now t.end.first.now d

abbrev pub RowOpenOn : Sides → ℕ → ℕ → ℕ → ℕ → Type 0
RowOpenOn t size s start stop = RowOpen t.end.masks.now t.end.first.now t.wide size s start stop

abbrev pub LevelOpenOn : Sides → ℕ → Level → Type 0
LevelOpenOn t size l = LevelOpen t.end.masks.now t.end.first.now t.wide size l
