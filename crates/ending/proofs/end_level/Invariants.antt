-- The loop's invariant: the keys from i on give the records left to add. Assumes nothing.
use Rattle.ending.specs.Ends.{ends_of}
use Rattle.ending.proofs.Steps.{OnTheWay}
use Rattle.ending.proofs.Keys.{keys_left, keys_all}
use Rattle.ending.proofs.end_level.Given as goal

abbrev pub invariant-loop-i : goal.invariant-loop-i
invariant-loop-i l =
    OnTheWay l.fn.leaves (keys_all (ends_of l.old.rows.now l.old.masks.now l.old.coefs.now l.old.first.now) l.base l.cur l.count) (keys_left (ends_of l.old.rows.now l.old.masks.now l.old.coefs.now l.old.first.now) l.base l.cur l.count l.i) l.leaves
