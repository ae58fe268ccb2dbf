-- The loop's invariant: the rows from i on give what is left to add. Assumes nothing.
use Prim.Native.Nat.{◌-◌}
use Rattle.amplitude.specs.Leaf.{turn}
use Rattle.automata.specs.Choice.{map_alt}
use Rattle.gates.specs.Numbering as numbering
use Rattle.lookup.specs.Alts.{leaf_alts}
use Rattle.ending.proofs.Steps.{OnTheWay}
use Rattle.ending.proofs.end_single.Given as goal

abbrev pub invariant-loop-i : goal.invariant-loop-i
invariant-loop-i l =
    OnTheWay l.fn.leaves (numbering.rows l.state (map_alt (turn l.shift) (leaf_alts l.old.rows.now l.old.masks.now l.old.coefs.now l.from (l.to - l.from))))
    (numbering.rows l.state (map_alt (turn l.shift) (leaf_alts l.old.rows.now l.old.masks.now l.old.coefs.now l.i (l.to - l.i)))) l.leaves
