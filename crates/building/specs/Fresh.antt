-- Slices in which a level is about to grow: room for all that may be written, and for two keys more; and what they hold once it grew.
use Rattle.std.specs.Prelude.{◌≡◌, List, ℕ, ◌+◌, ◌*◌, ◌<◌, ◌≤◌, length, take, Option, Some, None}
use Rattle.tables.specs.Table.{row_width, tr_rows}
use Rattle.stepwise.specs.Grow.{Level}
use Rattle.growing.specs.declared.Most.{Most}
use Rattle.growing.specs.Growing.{Over}
use Rattle.growing.specs.declared.Progress.{Progress}

pub record Fresh (rows masks keys link heads : List ℕ) (most : Most) : Type 0 where
  pub wide : most.rows * row_width ≤ length rows
  pub long : most.rows ≤ length masks
  pub room : most.keys + 2 ≤ length keys
  pub links : most.keys + 2 ≤ length link
  pub small : most.base + most.keys + 2 < 65536
  pub buckets : 0 < length heads

-- the slices' lengths stay
pub record Kept (rows masks keys link heads rows' masks' keys' link' heads' : List ℕ) : Type 0 where
  pub rows_long : length rows' ≡ length rows
  pub masks_long : length masks' ≡ length masks
  pub keys_long : length keys' ≡ length keys
  pub link_long : length link' ≡ length link
  pub heads_long : length heads' ≡ length heads

-- so many rows and keys hold a level, within what may be
pub record Stood (rows masks keys : List ℕ) (p : Progress) (most : Most) (G : Level ℕ) : Type 0 where
  pub records : tr_rows rows masks 0 p.rows ≡ G.records
  pub named : take p.keys keys ≡ G.keys
  pub rows_few : p.rows ≤ most.rows
  pub keys_few : p.keys ≤ most.keys

-- what is left after the level was to grow to G: it did, or G is over what may be
pub record Climbed (rows masks keys : List ℕ) (r : Option Progress) (most : Most) (G : Level ℕ) : Type 0 where
  pub stood : (p : Progress) → r ≡ Some p → Stood rows masks keys p most G
  pub over : r ≡ None → Over most G
