-- Cells of one list compared with those of another, and copied over them, one stretch or one stretch of each plane: what both leave known.
-- Cell i of the first list belongs to cell base + i of the second; plane j begins at cell j * plane.
use Rattle.std.specs.Prelude.{◌≡◌, List, ℕ, ◌+◌, ◌*◌, ◌<◌, ◌≤◌, get_or}

-- the cells from `from` up to below `to` are the same
pub record Equal (from to base : ℕ) (source target : List ℕ) : Type 0 where
  pub cells : (i : ℕ) → from ≤ i → i < to → get_or target (base + i) 0 ≡ get_or source i 0

-- those of each of the first p planes are the same
pub record EqualPlanes (from to plane p base : ℕ) (source target : List ℕ) : Type 0 where
  pub cells : (j i : ℕ) → j < p → from ≤ i → i < to → get_or target (base + (j * plane + i)) 0 ≡ get_or source (j * plane + i) 0

-- the stretch lies in both lists
pub record Spans (from to base size room : ℕ) : Type 0 where
  pub rising : from ≤ to
  pub source : to ≤ size
  pub target : base + to ≤ room

-- the first p planes lie in both lists, and the stretch in a plane
pub record SpansPlanes (from to plane p base size room : ℕ) : Type 0 where
  pub rising : from ≤ to
  pub narrow : to ≤ plane
  pub source : p * plane ≤ size
  pub target : base + p * plane ≤ room

-- the stretch is the source's now, and every other cell is what it was
pub record Copied (from to base : ℕ) (source target target' : List ℕ) : Type 0 where
  pub inside : Equal from to base source target'
  pub outside : (x : ℕ) → ((i : ℕ) → from ≤ i → i < to → x ≡ base + i → ⊥) → get_or target' x 0 ≡ get_or target x 0

-- the same of the stretch of each of the first p planes
pub record CopiedPlanes (from to plane p base : ℕ) (source target target' : List ℕ) : Type 0 where
  pub inside : EqualPlanes from to plane p base source target'
  pub outside : (x : ℕ) → ((j i : ℕ) → j < p → from ≤ i → i < to → x ≡ base + (j * plane + i) → ⊥) → get_or target' x 0 ≡ get_or target x 0
