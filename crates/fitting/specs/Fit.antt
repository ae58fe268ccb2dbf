-- The last step of the search, on tables: the leaves of a pair under one choice of the image and one of the end set; and what reading them asks.
use Rattle.std.specs.Prelude.{◌≡◌, Bool, true, List, ℕ, ◌+◌, ◌*◌, ◌<◌, ◌≤◌, ℤ, length, get_or}
use Rattle.amplitude.specs.Amp.{in_range_a}
use Rattle.amplitude.specs.Leaf.{k_most}
use Rattle.automata.specs.Choice.{choose}
use Rattle.verdict.specs.Search.{same_leaves}
use Rattle.tables.specs.declared.Table.{Table}
use Rattle.tables.specs.Table.{row_width, leaf_width}
use Rattle.lookup.specs.Lookup.{pair_row}
use Rattle.lookup.specs.Alts.{ends_in}
use Rattle.leafrows.specs.Row.{row_amp}
use Rattle.meeting.specs.declared.Level.{Level}
use Rattle.meeting.specs.declared.Sides.{Sides}
use Rattle.meeting.specs.Met.{There}

-- both states have a leaf, and the two are equal
abbrev pub leaves_in : List ℕ → List ℕ → List ℤ → List ℕ → List ℕ → List ℕ → List ℤ → List ℕ → ℕ → ℕ → ℕ → ℕ → Bool
leaves_in rows masks coefs first end_rows end_masks end_coefs end_first c d s e =
    same_leaves (choose c (ends_in rows masks coefs first s)) (choose d (ends_in end_rows end_masks end_coefs end_first e))

-- row i is there, the four numbers that it names are there and in range, and its k is
pub record LeafRow (rows : List ℕ) (coefs : List ℤ) (i : ℕ) : Type 0 where
  pub wide : i * row_width + row_width ≤ length rows
  pub deep : (pair_row rows i).0 * leaf_width + leaf_width ≤ length coefs
  pub range : in_range_a (row_amp coefs (pair_row rows i).0) ≡ true
  pub scale : (pair_row rows i).1 ≤ k_most

-- the rows of state s are there, and they are leaves
pub record Leafy (rows masks : List ℕ) (coefs : List ℤ) (first : List ℕ) (s : ℕ) : Type 0 where
  pub begun : s + 1 < length first
  pub long : get_or first (s + 1) 0 ≤ length masks
  pub each : (i : ℕ) → get_or first s 0 ≤ i → i < get_or first (s + 1) 0 → LeafRow rows coefs i

-- the same of image state s and of end state e
pub record PairLeaves (rows masks : List ℕ) (coefs : List ℤ) (first end_rows end_masks : List ℕ) (end_coefs : List ℤ) (end_first : List ℕ) (s e : ℕ) : Type 0 where
  pub image : Leafy rows masks coefs first s
  pub ends : Leafy end_rows end_masks end_coefs end_first e

-- of all states of the level, whose pairs have their places in the row of marks
pub record LeafStage (rows masks : List ℕ) (coefs : List ℤ) (first end_rows end_masks : List ℕ) (end_coefs : List ℤ) (end_first : List ℕ) (wide size : ℕ) (l : Level) : Type 0 where
  pub image : (s : ℕ) → l.from ≤ s → s < l.to → Leafy rows masks coefs first s
  pub ends : (e : ℕ) → l.start ≤ e → e < l.stop → Leafy end_rows end_masks end_coefs end_first e
  pub there : (s e : ℕ) → l.from ≤ s → s < l.to → l.start ≤ e → e < l.stop → There wide size s e

-- ---- of a table, and of both
abbrev pub LeafRowOn : Table → ℕ → Type 0
LeafRowOn t i = LeafRow t.rows.now t.coefs.now i

abbrev pub leaves_on : Sides → ℕ → ℕ → ℕ → ℕ → Bool
leaves_on t c d s e = leaves_in t.image.rows.now t.image.masks.now t.image.coefs.now t.image.first.now t.end.rows.now t.end.masks.now t.end.coefs.now t.end.first.now c d s e

abbrev pub PairLeavesOn : Sides → ℕ → ℕ → Type 0
PairLeavesOn t s e = PairLeaves t.image.rows.now t.image.masks.now t.image.coefs.now t.image.first.now t.end.rows.now t.end.masks.now t.end.coefs.now t.end.first.now s e

abbrev pub LeafStageOn : Sides → ℕ → Level → Type 0
LeafStageOn t size l = LeafStage t.image.rows.now t.image.masks.now t.image.coefs.now t.image.first.now t.end.rows.now t.end.masks.now t.end.coefs.now t.end.first.now t.wide size l
