-- `moving::grow_pair` meets its contract: the meetings left, from the level held, give what all meetings give from the level at the start. A choice
-- is left only where both states have rows. Assumes nothing.
use mathlib.Core.Path.{◌≡◌}
use Prim.Native.Nat.{◌-◌, ◌<◌}
use Rattle.automata.specs.Choice.{together}
use Rattle.gates.specs.Roles.{pair_kids}
use Rattle.roles.specs.Kept.{role_is, side_is}
use Rattle.growing.specs.Growing.{level_in, Kept}
use Rattle.growing.proofs.Going.{Going}
use Rattle.lookup.specs.Alts.{alts_from}
use Rattle.moving.specs.Moves.{grow_alts}
use Rattle.moving.proofs.Meetings.{meetings}
use Rattle.moving.proofs.grow_pair.Given as goal

abbrev pub invariant-loop-step : goal.invariant-loop-step
invariant-loop-step l =
    Going l.level (grow_alts l.fn.level.most l.state (meetings (pair_kids (role_is l.role) (side_is l.side)) l.old.rows.now l.old.masks.now l.qfrom l.qto l.pfrom l.pto (32 - l._step) l.left))
    (grow_alts l.fn.level.most l.state (together (pair_kids (role_is l.role) (side_is l.side)) (alts_from l.old.rows.now l.old.masks.now l.qfrom (l.qto - l.qfrom)) (alts_from l.old.rows.now l.old.masks.now l.pfrom (l.pto - l.pfrom)))
    (level_in l.fn.level))
    × Kept l.fn.level l.level × ((l.left ≡ 0 → ⊥) → (l.qfrom < l.qto) × (l.pfrom < l.pto))
