-- The loop's invariant: the rows from i on give what is left to add. Assumes nothing.
use native.Mathlib.Omega.{arith}
use Rattle.ending.proofs.Steps.{way_begin, way_lent}
use Rattle.ending.proofs.Singles.{single_on, single-over, single-end}
use Rattle.ending.proofs.end_single.Goals as goal

pub loop-i-init : goal.loop-i-init
loop-i-init c = way_begin c.requires.lent

pub turned_leaf-x-requires : goal.turned_leaf-x-requires
turned_leaf-x-requires c = c.requires.source.each c.loop-i.i (omega arith) (omega arith)

pub loop-i-preserved : goal.loop-i-preserved
loop-i-preserved c = single_on c.requires.source c.args.shift c.args.state c.loop-i.i c.loop-i.invariant (omega arith) (omega arith) c.turned_leaf-x.ensures c.in_ok-put.ensures

pub returns-in_err-put : goal.returns-in_err-put
returns-in_err-put c =
    rw c.from_residual.ensures (single-over c.requires.source c.args.shift c.args.state c.loop-i.i c.loop-i.invariant (omega arith) (omega arith) c.turned_leaf-x.ensures c.in_err-put.ensures)

pub returns : goal.returns
returns c = single-end c.requires.source c.args.shift c.args.state c.loop-i.i c.loop-i.invariant (omega arith)

pub put-requires : goal.put-requires
put-requires c = way_lent c.loop-i.invariant
