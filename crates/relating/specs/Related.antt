-- Both tables hold well-formed sets of n qubits, and the pairs of all levels have their places in a plane.
use Rattle.std.specs.Prelude.{List, ℕ, suc, ◌*◌, ◌≤◌, ℤ}
use Rattle.meeting.specs.declared.Sides.{Sides}
use Rattle.matching.specs.Levels.{start_of}
use Rattle.matching.specs.Seeking.{Held}

pub record Related (rows masks : List ℕ) (coefs : List ℤ) (counts first end_rows end_masks : List ℕ) (end_coefs : List ℤ) (end_counts end_first : List ℕ) (wide plane n : ℕ) : Type 0 where
  pub image : Held rows masks coefs counts first n
  pub ends : Held end_rows end_masks end_coefs end_counts end_first n
  pub long : start_of counts (suc n) * wide ≤ plane
  pub narrow : start_of end_counts (suc n) ≤ wide * 32

-- of both tables
abbrev pub RelatedOn : Sides → ℕ → ℕ → Type 0
RelatedOn t plane n = Related t.image.rows.now t.image.masks.now t.image.coefs.now t.image.counts.now t.image.first.now t.end.rows.now t.end.masks.now t.end.coefs.now t.end.counts.now t.end.first.now t.wide plane n
