-- The loop's invariant: the set so far, carried through the gates that are left, comes to what all gates make of the first set. Assumes
-- nothing.
use Prim.Native.Nat.{◌+◌, ◌-◌, ◌*◌}
use Rattle.gates.specs.Circuit.{gt_size}
use Rattle.gates.specs.Refuse.{after_gates}
use Rattle.settling.specs.Result.{bounds_from}
use Rattle.growing.specs.Growing.{SameNames}
use Rattle.tables.specs.Slices.{lent_is, set_on, SameLengths, SameLent}
use Rattle.carrying.specs.Carried.{gates_from}
use Rattle.carrying.proofs.Turns.{Going}
use Rattle.carrying.proofs.run_gates.Given as goal

abbrev pub invariant-loop-i : goal.invariant-loop-i
invariant-loop-i l =
    Going l.form.n l.circuit l.room (lent_is l.a) (lent_is l.b) l.cur l.names l.image (l.count - l.i) (l.i * gt_size) (l.i + 1) (after_gates (bounds_from l.room) 1 (gates_from l.form.n l.circuit 0 l.count) (set_on l.form (lent_is l.fn.a)))
    × SameLengths (lent_is l.fn.a) (lent_is l.a) × SameLengths (lent_is l.fn.b) (lent_is l.b) × SameNames l.fn.names l.names
    × SameLent l.fn.a l.a × SameLent l.fn.b l.b
