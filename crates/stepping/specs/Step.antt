-- One level down from the pairs that are met: a pair passes if both its states have a transition and both pairs of children pass. What a walk
-- over some pairs asks of the tables and the row of marks, and what it leaves.
use Rattle.std.specs.Prelude.{◌≡◌, Bool, true, false, ◌&&◌, List, ℕ, ◌+◌, ◌-◌, ◌*◌, ◌<◌, ◌≤◌, length, get_or}
use Rattle.std.proofs.Math.Option.{Option, none, some}
use Rattle.automata.specs.Choice.{choose}
use Rattle.tables.specs.Table.{row_width}
use Rattle.lookup.specs.Lookup.{pair_row}
use Rattle.lookup.specs.Alts.{moves_in}
use Rattle.meeting.specs.declared.Level.{Level}
use Rattle.meeting.specs.declared.Sides.{Sides}
use Rattle.meeting.specs.Met.{is_met, There, Meeting}
use Rattle.meeting.specs.All.{met_by, met_in, all_met}

-- the children of state s of a table under choice c
abbrev pub move_in : List ℕ → List ℕ → List ℕ → ℕ → ℕ → Option (ℕ × ℕ)
move_in rows masks first c s = choose c (moves_in rows masks first s)

-- both left children pass, and both right ones
abbrev pub kids : (ℕ → ℕ → Bool) → Option (ℕ × ℕ) → Option (ℕ × ℕ) → Bool
kids g none q = false
kids g (some p) none = false
kids g (some p) (some q) = g p.0 q.0 && g p.1 q.1

-- the children of image state s and of end state e of two tables pass, under choice c of the image and choice d of the end set
abbrev pub kids_in : List ℕ → List ℕ → List ℕ → List ℕ → List ℕ → List ℕ → ℕ → ℕ → (ℕ → ℕ → Bool) → ℕ → ℕ → Bool
kids_in rows masks first end_rows end_masks end_first c d g s e = kids g (move_in rows masks first c s) (move_in end_rows end_masks end_first d e)

-- ---- what is asked
-- row i is there, and its children are states from `from` up to below `to`
pub record Kin (rows : List ℕ) (i from to : ℕ) : Type 0 where
  pub wide : i * row_width + row_width ≤ length rows
  pub left : from ≤ (pair_row rows i).0
  pub left_to : (pair_row rows i).0 < to
  pub right : from ≤ (pair_row rows i).1
  pub right_to : (pair_row rows i).1 < to

-- the rows of state s are there, and their children are states from `from` up to below `to`
pub record Inner (rows masks first : List ℕ) (s from to : ℕ) : Type 0 where
  pub begun : s + 1 < length first
  pub long : get_or first (s + 1) 0 ≤ length masks
  pub each : (i : ℕ) → get_or first s 0 ≤ i → i < get_or first (s + 1) 0 → Kin rows i from to

-- both pairs of children of rows i and j have their places in the row of marks
pub record KidsThere (rows end_rows : List ℕ) (wide size i j : ℕ) : Type 0 where
  pub row : i * row_width + row_width ≤ length rows
  pub end_row : j * row_width + row_width ≤ length end_rows
  pub left : There wide size (pair_row rows i).0 (pair_row end_rows j).0
  pub right : There wide size (pair_row rows i).1 (pair_row end_rows j).1

-- the children of image state s and of end state e are states of the next level, whose pairs have their places
pub record Ready (rows masks first end_rows end_masks end_first : List ℕ) (wide size s e : ℕ) (next : Level) : Type 0 where
  pub image : Inner rows masks first s next.from next.to
  pub ends : Inner end_rows end_masks end_first e next.start next.stop
  pub before : s < next.from
  pub levels : next.from ≤ next.to
  pub small : e < wide * 32
  pub long : next.to * wide ≤ size
  pub narrow : next.stop ≤ wide * 32

-- the same of image state s and of the end states from `start` up to below `stop`
pub record RowReady (rows masks first end_rows end_masks end_first : List ℕ) (wide size s start stop : ℕ) (next : Level) : Type 0 where
  pub each : (e : ℕ) → start ≤ e → e < stop → Ready rows masks first end_rows end_masks end_first wide size s e next

-- the same of all states of the level
pub record Stage (rows masks first end_rows end_masks end_first : List ℕ) (wide size : ℕ) (l next : Level) : Type 0 where
  pub below : l.to ≤ next.from
  pub levels : next.from ≤ next.to
  pub small : l.stop ≤ wide * 32
  pub long : next.to * wide ≤ size
  pub narrow : next.stop ≤ wide * 32
  pub image : (s : ℕ) → l.from ≤ s → s < l.to → Inner rows masks first s next.from next.to
  pub ends : (e : ℕ) → l.start ≤ e → e < l.stop → Inner end_rows end_masks end_first e next.start next.stop

-- ---- what is left
-- both pairs of children are met now, one after the other
pub record Twice (wide : ℕ) (met : List ℕ) (p q : ℕ × ℕ) (met' : List ℕ) : Type 0 where
  pub mid : List ℕ
  pub left : Meeting wide met p.0 q.0 mid
  pub right : Meeting wide mid p.1 q.1 met'

-- the pairs of all earlier levels are what they were
pub record Kept (wide : ℕ) (met : List ℕ) (from : ℕ) (met' : List ℕ) : Type 0 where
  pub each : (s e : ℕ) → s < from → e < wide * 32 → is_met wide met' s e ≡ is_met wide met s e

-- some pairs were walked over, `all` of which pass if their children do: if each had its transitions (r), what passes on the next level now is
-- what passed before, with all those children; if one had not, they cannot all pass
pub record Stepped (wide : ℕ) (met : List ℕ) (next : Level) (all : (ℕ → ℕ → Bool) → Bool) (met' : List ℕ) (r : Bool) : Type 0 where
  pub kept : Kept wide met next.from met'
  pub is : (g : ℕ → ℕ → Bool) → r && all_met g wide met' next ≡ all g && all_met g wide met next

-- the same of a whole level: on the next level only the children are met
pub record Gone (wide : ℕ) (met : List ℕ) (next : Level) (all : (ℕ → ℕ → Bool) → Bool) (met' : List ℕ) (r : Bool) : Type 0 where
  pub kept : Kept wide met next.from met'
  pub is : (g : ℕ → ℕ → Bool) → r && all_met g wide met' next ≡ all g

-- ---- of both tables
abbrev pub kids_on : Sides → ℕ → ℕ → (ℕ → ℕ → Bool) → ℕ → ℕ → Bool
kids_on t c d g s e = kids_in t.image.rows.now t.image.masks.now t.image.first.now t.end.rows.now t.end.masks.now t.end.first.now c d g s e

abbrev pub KidsThereOn : Sides → ℕ → ℕ → ℕ → Type 0
KidsThereOn t size i j = KidsThere t.image.rows.now t.end.rows.now t.wide size i j

abbrev pub ReadyOn : Sides → ℕ → ℕ → ℕ → Level → Type 0
ReadyOn t size s e next = Ready t.image.rows.now t.image.masks.now t.image.first.now t.end.rows.now t.end.masks.now t.end.first.now t.wide size s e next

abbrev pub RowReadyOn : Sides → ℕ → ℕ → ℕ → ℕ → Level → Type 0
RowReadyOn t size s start stop next = RowReady t.image.rows.now t.image.masks.now t.image.first.now t.end.rows.now t.end.masks.now t.end.first.now t.wide size s start stop next

abbrev pub StageOn : Sides → ℕ → Level → Level → Type 0
StageOn t size l next = Stage t.image.rows.now t.image.masks.now t.image.first.now t.end.rows.now t.end.masks.now t.end.first.now t.wide size l next
