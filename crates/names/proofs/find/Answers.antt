-- `names::find` meets its contract. The loop's invariant: `next` is on the chain of the key's bucket, and the key is nowhere from there on.
-- The measure is `next`, since a chain goes to smaller places. Assumes nothing.
use Rattle.names.proofs.Walk.{walk_start, walk_down, walk_on, walk_hit, walk_end}
use Rattle.names.proofs.find.Goals as goal

pub loop-next-init : goal.loop-next-init
loop-next-init c =
    rw c.bucket_of-b.ensures.0 (walk_start c.requires c.args.key)

pub returns-then-keys-at : goal.returns-then-keys-at
returns-then-keys-at c =
    walk_hit c.requires c.loop-next.invariant c.loop-next-test.true c.if-keys-at.true

pub loop-next-smaller : goal.loop-next-smaller
loop-next-smaller c =
    walk_down c.requires c.loop-next.invariant c.loop-next-test.true

pub loop-next-preserved : goal.loop-next-preserved
loop-next-preserved c =
    walk_on c.requires c.loop-next.invariant c.loop-next-test.true c.if-keys-at.false

pub returns : goal.returns
returns c =
    walk_end c.requires c.loop-next.invariant c.loop-next-test.false
