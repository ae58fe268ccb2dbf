-- `names::find` meets its contract. The loop's invariant: `next` is on the chain of the key's bucket, and the key is nowhere from there on.
-- The measure is `next`, since a chain goes to smaller places. Assumes nothing.
use lib.ListN.{length}
use Rattle.names.proofs.Walk.{Walking}
use Rattle.names.proofs.find.Given as goal

abbrev pub invariant-loop-next : goal.invariant-loop-next
invariant-loop-next l =
    Walking (length l.heads) l.keys l.count l.key l.next

abbrev pub decreases-loop-next : goal.decreases-loop-next
decreases-loop-next l =
    l.next
