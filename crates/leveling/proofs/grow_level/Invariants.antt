-- `leveling::grow_level` meets its contract: the states left, from the level held, give what all states give from the level at the start. Assumes
-- nothing.
use lib.Dec.{eqb}
use lib.ListN.{take}
use Rattle.stepwise.specs.Grow.{grow_all}
use Rattle.roles.specs.Kept.{role_is}
use Rattle.growing.specs.Growing.{level_in, Kept}
use Rattle.growing.proofs.Going.{Going}
use Rattle.moving.specs.Moves.{moves_of}
use Rattle.leveling.proofs.Turns.{left_from}
use Rattle.leveling.proofs.grow_level.Given as goal

abbrev pub invariant-loop-k : goal.invariant-loop-k
invariant-loop-k l =
    Going l.level (left_from l.fn.level.most.base (moves_of (role_is l.role) l.old.rows.now l.old.masks.now l.old.first.now) l.start l.cur l.count l.k)
    (grow_all eqb l.fn.level.most.base (moves_of (role_is l.role) l.old.rows.now l.old.masks.now l.old.first.now) l.start (take l.count l.cur) (level_in l.fn.level))
    × Kept l.fn.level l.level
