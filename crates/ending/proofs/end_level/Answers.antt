-- The loop's invariant: the keys from i on give the records left to add. Assumes nothing.
use native.Mathlib.Omega.{arith}
use Rattle.ending.specs.Ends.{ends_of}
use Rattle.ending.proofs.Steps.{way_lent}
use Rattle.ending.proofs.Keys.{level-begin, level_on, level-over, level-end}
use Rattle.ending.proofs.end_level.Goals as goal

pub loop-i-init : goal.loop-i-init
loop-i-init c =
    level-begin (ends_of c.args.old.now.rows.now c.args.old.now.masks.now c.args.old.now.coefs.now c.args.old.now.first.now) c.args.base c.args.cur.now c.args.count c.requires.count_in_bounds.0 c.requires.lent

pub loop-i-preserved : goal.loop-i-preserved
loop-i-preserved c =
    level_on (ends_of c.args.old.now.rows.now c.args.old.now.masks.now c.args.old.now.coefs.now c.args.old.now.first.now) c.args.base c.args.cur.now c.args.count c.requires.count_in_bounds.0 c.loop-i.i c.loop-i.invariant (omega arith) c.in_ok-end_state.ensures

pub returns-in_err-end_state-clause-ended : goal.returns-in_err-end_state-clause-ended
returns-in_err-end_state-clause-ended c =
    rw c.from_residual.ensures
    (level-over (ends_of c.args.old.now.rows.now c.args.old.now.masks.now c.args.old.now.coefs.now c.args.old.now.first.now) c.args.base c.args.cur.now c.args.count c.requires.count_in_bounds.0 c.loop-i.i c.loop-i.invariant (omega arith) c.in_err-end_state.ensures)

pub returns-clause-ended : goal.returns-clause-ended
returns-clause-ended c =
    level-end (ends_of c.args.old.now.rows.now c.args.old.now.masks.now c.args.old.now.coefs.now c.args.old.now.first.now) c.args.base c.args.cur.now c.args.count c.requires.count_in_bounds.0 c.loop-i.i c.loop-i.invariant (omega arith)

pub end_state-requires-clause-lent : goal.end_state-requires-clause-lent
end_state-requires-clause-lent c = way_lent c.loop-i.invariant
