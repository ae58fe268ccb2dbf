-- Which pairs could match at all under a word of the image: what is asked of the tables, and what the marks say. Only one side is promised:
-- a pair that does match is marked.
use Rattle.std.specs.Prelude.{◌≡◌, Bool, true, false, ◌&&◌, List, ℕ, ◌+◌, ◌*◌, ◌<◌, ◌≤◌, ℤ, length, get_or}
use Rattle.amplitude.specs.Leaf.{same}
use Rattle.lookup.specs.Lookup.{pair_row, leaf_of}
use Rattle.meeting.specs.declared.Level.{Level}
use Rattle.meeting.specs.declared.Sides.{Sides}
use Rattle.meeting.specs.Met.{is_met, There}
use Rattle.stepping.specs.Step.{kids_in, KidsThere}
use Rattle.fitting.specs.Fit.{leaves_in, LeafRow}

-- ---- rows of the end set beside row i
pub record EndRows (rows : List ℕ) (coefs : List ℤ) (end_rows : List ℕ) (end_coefs : List ℤ) (i from to : ℕ) : Type 0 where
  pub image : LeafRow rows coefs i
  pub ends : (j : ℕ) → from ≤ j → j < to → LeafRow end_rows end_coefs j

pub record EndFits (rows : List ℕ) (coefs : List ℤ) (end_rows : List ℕ) (end_coefs : List ℤ) (i from to : ℕ) : Type 0 where
  pub row : ℕ
  pub after : from ≤ row
  pub before : row < to
  pub fits : same (leaf_of rows coefs i) (leaf_of end_rows end_coefs row) ≡ true

pub record KidRows (rows end_rows : List ℕ) (wide size i from to : ℕ) : Type 0 where
  pub each : (j : ℕ) → from ≤ j → j < to → KidsThere rows end_rows wide size i j

-- both pairs of children are marked
abbrev pub both_marked : ℕ → List ℕ → ℕ × ℕ → ℕ × ℕ → Bool
both_marked wide may p q = is_met wide may p.0 q.0 && is_met wide may p.1 q.1

pub record KidsMay (rows end_rows : List ℕ) (wide : ℕ) (may : List ℕ) (i from to : ℕ) : Type 0 where
  pub row : ℕ
  pub after : from ≤ row
  pub before : row < to
  pub marked : both_marked wide may (pair_row rows i) (pair_row end_rows row) ≡ true

-- ---- a pair
-- a choice of the end set by which both leaves are equal
pub record LeafHint (rows masks : List ℕ) (coefs : List ℤ) (first end_rows end_masks : List ℕ) (end_coefs : List ℤ) (end_first : List ℕ) (c s e : ℕ) : Type 0 where
  pub choice : ℕ
  pub fits : leaves_in rows masks coefs first end_rows end_masks end_coefs end_first c choice s e ≡ true

-- a choice by which both pairs of children pass a test that only marked pairs pass
pub record KidsHint (rows masks first end_rows end_masks end_first : List ℕ) (c wide : ℕ) (may : List ℕ) (s e : ℕ) : Type 0 where
  pub choice : ℕ
  pub test : ℕ → ℕ → Bool
  pub marked : (q f : ℕ) → test q f ≡ true → is_met wide may q f ≡ true
  pub fits : kids_in rows masks first end_rows end_masks end_first c choice test s e ≡ true

-- on the last level, and on another one
abbrev pub Hint : Bool → List ℕ → List ℕ → List ℤ → List ℕ → List ℕ → List ℕ → List ℤ → List ℕ → ℕ → ℕ → List ℕ → ℕ → ℕ → Type 0
Hint true rows masks coefs first end_rows end_masks end_coefs end_first c wide may s e = LeafHint rows masks coefs first end_rows end_masks end_coefs end_first c s e
Hint false rows masks coefs first end_rows end_masks end_coefs end_first c wide may s e = KidsHint rows masks first end_rows end_masks end_first c wide may s e

-- the rows of both states are there, and what they name
pub record PairReady (last : Bool) (rows masks : List ℕ) (coefs : List ℤ) (first end_rows end_masks : List ℕ) (end_coefs : List ℤ) (end_first : List ℕ) (wide size s e : ℕ) : Type 0 where
  pub begun : s + 1 < length first
  pub long : get_or first (s + 1) 0 ≤ length masks
  pub end_begun : e + 1 < length end_first
  pub leaves : last ≡ true → (i : ℕ) → get_or first s 0 ≤ i → i < get_or first (s + 1) 0 → EndRows rows coefs end_rows end_coefs i (get_or end_first e 0) (get_or end_first (e + 1) 0)
  pub kids : last ≡ false → (i : ℕ) → get_or first s 0 ≤ i → i < get_or first (s + 1) 0 → KidRows rows end_rows wide size i (get_or end_first e 0) (get_or end_first (e + 1) 0)

-- the same of image state s and of the end states from `start` up to below `stop`, whose pairs have their places
pub record RowReady (last : Bool) (rows masks : List ℕ) (coefs : List ℤ) (first end_rows end_masks : List ℕ) (end_coefs : List ℤ) (end_first : List ℕ) (wide size s start stop : ℕ) : Type 0 where
  pub each : (e : ℕ) → start ≤ e → e < stop → PairReady last rows masks coefs first end_rows end_masks end_coefs end_first wide size s e
  pub there : (e : ℕ) → start ≤ e → e < stop → There wide size s e

-- and of all states of the level
pub record Ground (last : Bool) (rows masks : List ℕ) (coefs : List ℤ) (first end_rows end_masks : List ℕ) (end_coefs : List ℤ) (end_first : List ℕ) (wide size : ℕ) (l : Level) : Type 0 where
  pub each : (s : ℕ) → l.from ≤ s → s < l.to → RowReady last rows masks coefs first end_rows end_masks end_coefs end_first wide size s l.start l.stop

-- ---- what is left: marks only grow, and each pair of the level that could match is marked
pub record Hinted (last : Bool) (rows masks : List ℕ) (coefs : List ℤ) (first end_rows end_masks : List ℕ) (end_coefs : List ℤ) (end_first : List ℕ) (c wide : ℕ) (may : List ℕ) (l : Level) (may' : List ℕ) : Type 0 where
  pub grows : (q f : ℕ) → is_met wide may q f ≡ true → is_met wide may' q f ≡ true
  pub each : (s e : ℕ) → l.from ≤ s → s < l.to → l.start ≤ e → e < l.stop → Hint last rows masks coefs first end_rows end_masks end_coefs end_first c wide may s e → is_met wide may' s e ≡ true

-- ---- two rows of marks: the pairs have their places in both
pub record RowThere (wide size size' s start stop : ℕ) : Type 0 where
  pub each : (e : ℕ) → start ≤ e → e < stop → There wide size s e × There wide size' s e

pub record LevelThere (wide size size' : ℕ) (l : Level) : Type 0 where
  pub each : (s : ℕ) → l.from ≤ s → s < l.to → RowThere wide size size' s l.start l.stop

-- ---- of both tables
-- the rows of end state e beside row i
pub record EndRowsOn (t : Sides) (i e : ℕ) : Type 0 where
  pub begun : e + 1 < length t.end.first.now
  pub rows : EndRows t.image.rows.now t.image.coefs.now t.end.rows.now t.end.coefs.now i (get_or t.end.first.now e 0) (get_or t.end.first.now (e + 1) 0)

abbrev pub EndFitsOn : Sides → ℕ → ℕ → Type 0
EndFitsOn t i e = EndFits t.image.rows.now t.image.coefs.now t.end.rows.now t.end.coefs.now i (get_or t.end.first.now e 0) (get_or t.end.first.now (e + 1) 0)

pub record KidRowsOn (t : Sides) (size i e : ℕ) : Type 0 where
  pub begun : e + 1 < length t.end.first.now
  pub rows : KidRows t.image.rows.now t.end.rows.now t.wide size i (get_or t.end.first.now e 0) (get_or t.end.first.now (e + 1) 0)

abbrev pub KidsMayOn : Sides → List ℕ → ℕ → ℕ → Type 0
KidsMayOn t may i e = KidsMay t.image.rows.now t.end.rows.now t.wide may i (get_or t.end.first.now e 0) (get_or t.end.first.now (e + 1) 0)

abbrev pub LeafHintOn : Sides → ℕ → ℕ → ℕ → Type 0
LeafHintOn t c s e = LeafHint t.image.rows.now t.image.masks.now t.image.coefs.now t.image.first.now t.end.rows.now t.end.masks.now t.end.coefs.now t.end.first.now c s e

abbrev pub KidsHintOn : Sides → ℕ → List ℕ → ℕ → ℕ → Type 0
KidsHintOn t c may s e = KidsHint t.image.rows.now t.image.masks.now t.image.first.now t.end.rows.now t.end.masks.now t.end.first.now c t.wide may s e

abbrev pub PairReadyOn : Bool → Sides → ℕ → ℕ → ℕ → Type 0
PairReadyOn last t size s e = PairReady last t.image.rows.now t.image.masks.now t.image.coefs.now t.image.first.now t.end.rows.now t.end.masks.now t.end.coefs.now t.end.first.now t.wide size s e

abbrev pub GroundOn : Bool → Sides → ℕ → Level → Type 0
GroundOn last t size l = Ground last t.image.rows.now t.image.masks.now t.image.coefs.now t.image.first.now t.end.rows.now t.end.masks.now t.end.coefs.now t.end.first.now t.wide size l

abbrev pub HintedOn : Bool → Sides → ℕ → List ℕ → Level → List ℕ → Type 0
HintedOn last t c may l may' = Hinted last t.image.rows.now t.image.masks.now t.image.coefs.now t.image.first.now t.end.rows.now t.end.masks.now t.end.coefs.now t.end.first.now c t.wide may l may'
