-- `moving::grow_single` meets its contract: the rows left, from the level held, give what all rows give from the level at the start. Assumes nothing.
use Prim.Native.Nat.{◌-◌}
use Rattle.automata.specs.Choice.{map_alt}
use Rattle.roles.specs.Kept.{role_is, single_kids}
use Rattle.growing.specs.Growing.{level_in, Kept}
use Rattle.growing.proofs.Going.{Going}
use Rattle.lookup.specs.Alts.{alts_from}
use Rattle.moving.specs.Moves.{grow_alts}
use Rattle.moving.proofs.grow_single.Given as goal

abbrev pub invariant-loop-i : goal.invariant-loop-i
invariant-loop-i l =
    Going l.level (grow_alts l.fn.level.most l.state (map_alt (single_kids (role_is l.role) l.how) (alts_from l.old.rows.now l.old.masks.now l.i (l.to - l.i))))
    (grow_alts l.fn.level.most l.state (map_alt (single_kids (role_is l.role) l.how) (alts_from l.old.rows.now l.old.masks.now l.from (l.to - l.from))) (level_in l.fn.level))
    × Kept l.fn.level l.level
