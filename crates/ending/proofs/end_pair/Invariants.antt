-- The loop's invariant: the choices left give the records left to add; and both states have rows where a choice is left.
-- Assumes nothing.
use mathlib.Core.Path.{◌≡◌}
use Prim.Native.Nat.{◌-◌, ◌<◌}
use Rattle.ending.proofs.Steps.{OnTheWay}
use Rattle.ending.proofs.Pairs.{pair_left, pair_all}
use Rattle.ending.proofs.end_pair.Given as goal

abbrev pub invariant-loop-step : goal.invariant-loop-step
invariant-loop-step l =
    ((l.left ≡ 0 → ⊥) → (l.qfrom < l.qto) × (l.pfrom < l.pto))
    × OnTheWay l.fn.leaves (pair_all l.old.rows.now l.old.masks.now l.old.coefs.now l.qfrom l.qto l.pfrom l.pto l.side l.state)
    (pair_left l.old.rows.now l.old.masks.now l.old.coefs.now l.qfrom l.qto l.pfrom l.pto l.side l.state (32 - l._step) l.left) l.leaves
