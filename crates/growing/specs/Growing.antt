-- Document 01, "Each level's records go into the rest of the lent table": one level under construction, in lent slices. `rows` and `masks` are the
-- rest of the table, `keys` the states of the next level mentioned so far, with their chains.
use Rattle.std.specs.Prelude.{◌≡◌, ◌⊎◌, ℕ, ◌+◌, ◌*◌, ◌<◌, ◌≤◌, length, take, Option, Some, None}
use Rattle.tables.specs.Table.{row_width, tr_rows}
use Rattle.stepwise.specs.Grow.{Level}
use Rattle.names.specs.declared.Names.{Names}
use Rattle.names.specs.Chain.{Chained}
use Rattle.growing.specs.declared.NewLevel.{NewLevel}
use Rattle.growing.specs.declared.Most.{Most}

-- the level that the slices hold, with so many rows and keys
abbrev pub level_in : NewLevel → Level ℕ
level_in v = record { records = tr_rows v.rows.now v.masks.now 0 v.done.rows; keys = take v.done.keys v.keys.now }

-- a level over what may still be written: rows, or states of the next level
abbrev pub Over : Most → Level ℕ → Type 0
Over most G = (most.rows < length G.records) ⊎ (most.keys < length G.keys)

-- a level within what may still be written, in slices with room for that and for two keys more
pub record Growing (v : NewLevel) : Type 0 where
  pub chained : Chained v.keys.now v.link.now v.heads.now v.done.keys
  pub rows_few : v.done.rows ≤ v.most.rows
  pub keys_few : v.done.keys ≤ v.most.keys
  pub wide : v.most.rows * row_width ≤ length v.rows.now
  pub long : v.most.rows ≤ length v.masks.now
  pub room : v.most.keys + 2 ≤ length v.keys.now
  pub links : v.most.keys + 2 ≤ length v.link.now
  pub small : v.most.base + v.most.keys + 2 < 65536

-- keys and chains in the same slices, which are as long
pub record SameNames (n n' : Names) : Type 0 where
  pub keys_same : n'.keys.ghost_name ≡ n.keys.ghost_name
  pub link_same : n'.link.ghost_name ≡ n.link.ghost_name
  pub heads_same : n'.heads.ghost_name ≡ n.heads.ghost_name
  pub keys_long : length n'.keys.now ≡ length n.keys.now
  pub link_long : length n'.link.now ≡ length n.link.now
  pub heads_long : length n'.heads.now ≡ length n.heads.now

-- the slices stay the same ones, with their lengths, and the most that may be
pub record Kept (v v' : NewLevel) : Type 0 where
  pub rows_same : v'.rows.ghost_name ≡ v.rows.ghost_name
  pub masks_same : v'.masks.ghost_name ≡ v.masks.ghost_name
  pub keys_same : v'.keys.ghost_name ≡ v.keys.ghost_name
  pub link_same : v'.link.ghost_name ≡ v.link.ghost_name
  pub heads_same : v'.heads.ghost_name ≡ v.heads.ghost_name
  pub rows_long : length v'.rows.now ≡ length v.rows.now
  pub masks_long : length v'.masks.now ≡ length v.masks.now
  pub keys_long : length v'.keys.now ≡ length v.keys.now
  pub link_long : length v'.link.now ≡ length v.link.now
  pub heads_long : length v'.heads.now ≡ length v.heads.now
  pub same_most : v'.most ≡ v.most

-- what is left after the level was to grow to G: it did, within bounds, or G is over them
pub record Grew (v : NewLevel) (r : Option Unit) (most : Most) (G : Level ℕ) : Type 0 where
  pub held : r ≡ Some tt → level_in v ≡ G
  pub growing : r ≡ Some tt → Growing v
  pub over : r ≡ None → Over most G
