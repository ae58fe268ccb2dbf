-- The states that a word so far reaches, as bytes of one row; a test of all of them on a level; and one level down by one choice: what it asks
-- of the table and the row, and what it leaves.
use Rattle.std.specs.Prelude.{◌≡◌, Bool, true, false, cond, ◌&&◌, List, ℕ, ◌+◌, ◌-◌, ◌*◌, ◌<◌, ◌≤◌, eqb, length, get_or}
use Rattle.std.proofs.Math.Option.{Option, none, some}
use Rattle.automata.specs.Choice.{has}
use Rattle.tables.specs.declared.Table.{Table}
use Rattle.tables.specs.Table.{row_width}
use Rattle.lookup.specs.Lookup.{pair_row, choices_of}
use Rattle.meeting.specs.All.{all_in}
use Rattle.stepping.specs.Step.{move_in, Inner}

unfoldable pub is_reached : List ℕ → ℕ → Bool
is_reached row s = eqb (get_or row s 0) 1

-- state s passes if it is reached
abbrev pub if_reached : (ℕ → Bool) → List ℕ → ℕ → Bool
if_reached g row s = cond (is_reached row s) (g s) true

-- all reached states from `from` up to below `to` pass
unfoldable pub all_reached : (ℕ → Bool) → List ℕ → ℕ → ℕ → Bool
all_reached g row from to = all_in (if_reached g row) from (to - from)

-- there are children, and both pass
abbrev pub both_pass : (ℕ → Bool) → Option (ℕ × ℕ) → Bool
both_pass g none = false
both_pass g (some p) = g p.0 && g p.1

-- the children of state s of a table under choice c pass
abbrev pub kids_in : List ℕ → List ℕ → List ℕ → ℕ → (ℕ → Bool) → ℕ → Bool
kids_in rows masks first c g s = both_pass g (move_in rows masks first c s)

-- state s has a transition with choice d
abbrev pub has_choice : List ℕ → List ℕ → ℕ → ℕ → Bool
has_choice masks first d s = has (choices_of masks first s) d

-- ---- what is asked
-- both children of row i have their cells in a row of so many
pub record KidsThere (rows : List ℕ) (size i : ℕ) : Type 0 where
  pub row : i * row_width + row_width ≤ length rows
  pub left : (pair_row rows i).0 < size
  pub right : (pair_row rows i).1 < size

-- the children of state s are states of the next level, which is from `from` up to below `to`
pub record Ready (rows masks first : List ℕ) (size s from to : ℕ) : Type 0 where
  pub inner : Inner rows masks first s from to
  pub before : s < from
  pub levels : from ≤ to
  pub long : to ≤ size

-- the same of all states of a level, which is from `from` up to below `to`, where the next one goes on from there up to below `till`
pub record Stage (rows masks first : List ℕ) (size from to till : ℕ) : Type 0 where
  pub inner : (s : ℕ) → from ≤ s → s < to → Inner rows masks first s to till
  pub levels : to ≤ till
  pub long : till ≤ size

-- the rows of state s are there
pub record Ended (masks first : List ℕ) (s : ℕ) : Type 0 where
  pub begun : s + 1 < length first
  pub long : get_or first (s + 1) 0 ≤ length masks

-- ---- what is left
-- state s is reached now, and the others are what they were
pub record Reaching (row : List ℕ) (s : ℕ) (row' : List ℕ) : Type 0 where
  pub here : is_reached row' s ≡ true
  pub others : (q : ℕ) → (q ≡ s → ⊥) → is_reached row' q ≡ is_reached row q

-- the states from `from` up to below `to` are not reached now, and those before them are what they were
pub record Emptied (row : List ℕ) (from to : ℕ) (row' : List ℕ) : Type 0 where
  pub within : (q : ℕ) → from ≤ q → q < to → is_reached row' q ≡ false
  pub before : (q : ℕ) → q < from → is_reached row' q ≡ is_reached row q

-- both children are reached now, one after the other
pub record Twice (row : List ℕ) (p : ℕ × ℕ) (row' : List ℕ) : Type 0 where
  pub mid : List ℕ
  pub left : Reaching row p.0 mid
  pub right : Reaching mid p.1 row'

-- the states before `from` are what they were
pub record Kept (row : List ℕ) (from : ℕ) (row' : List ℕ) : Type 0 where
  pub each : (q : ℕ) → q < from → is_reached row' q ≡ is_reached row q

-- some states were walked over, `all` of which pass if their children do: if each had its transition (r), what passes on the next level now is
-- what passed before, with all those children; if one had not, they cannot all pass
pub record Spread (row : List ℕ) (from to : ℕ) (all : (ℕ → Bool) → Bool) (row' : List ℕ) (r : Bool) : Type 0 where
  pub kept : Kept row from row'
  pub is : (g : ℕ → Bool) → r && all_reached g row' from to ≡ all g && all_reached g row from to

-- the same of a whole level: on the next level only the children are reached
pub record Gone (row : List ℕ) (from to : ℕ) (all : (ℕ → Bool) → Bool) (row' : List ℕ) (r : Bool) : Type 0 where
  pub kept : Kept row from row'
  pub is : (g : ℕ → Bool) → r && all_reached g row' from to ≡ all g

-- ---- of a table
abbrev pub kids_on : Table → ℕ → (ℕ → Bool) → ℕ → Bool
kids_on t c g s = kids_in t.rows.now t.masks.now t.first.now c g s

abbrev pub has_choice_on : Table → ℕ → ℕ → Bool
has_choice_on t d s = has_choice t.masks.now t.first.now d s

abbrev pub KidsThereOn : Table → ℕ → ℕ → Type 0
KidsThereOn t size i = KidsThere t.rows.now size i

abbrev pub ReadyOn : Table → ℕ → ℕ → ℕ → ℕ → Type 0
ReadyOn t size s from to = Ready t.rows.now t.masks.now t.first.now size s from to

abbrev pub StageOn : Table → ℕ → ℕ → ℕ → ℕ → Type 0
StageOn t size from to till = Stage t.rows.now t.masks.now t.first.now size from to till

abbrev pub EndedOn : Table → ℕ → Type 0
EndedOn t s = Ended t.masks.now t.first.now s
