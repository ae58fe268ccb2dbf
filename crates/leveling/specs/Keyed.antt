-- The states of one level of a gate's result, as stored keys in a lent slice, and the rows of the old states that they name.
use Rattle.std.specs.Prelude.{List, ℕ, ◌+◌, ◌<◌, ◌≤◌, length, get_or}
use Rattle.tables.specs.Slices.{Table}
use Rattle.stepwise.specs.Code.{tag_in, first_in, second_in}
use Rattle.moving.specs.Moves.{State}

-- the rows of old state q are there
pub record RowsOf (T : Table) (q : ℕ) : Type 0 where
  pub begun : q + 1 < length T.first
  pub rows : State T.rows T.masks (get_or T.first q 0) (get_or T.first (q + 1) 0)

-- those of the states of a stored key
pub record KeyRows (T : Table) (x : ℕ) : Type 0 where
  pub tag : tag_in x < 260
  pub first : RowsOf T (first_in x)
  pub second : RowsOf T (second_in x)

-- the first `count` are keys of states of the table, and numbers from `start` on are there for them
pub record Keyed (T : Table) (cur : List ℕ) (count start : ℕ) : Type 0 where
  pub there : count ≤ length cur
  pub each : (j : ℕ) → j < count → KeyRows T (get_or cur j 0)
  pub numbers : start + count < 65536
