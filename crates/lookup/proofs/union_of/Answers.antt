-- What is collected, with the choices of the rows left, is what all of them have. Assumes nothing.
use mathlib.Core.Path.{sym, ◌∙◌}
use Rattle.lookup.proofs.Turns.{union_more, union-none}
use Rattle.lookup.proofs.union_of.Goals as goal

pub loop-row-preserved : goal.loop-row-preserved
loop-row-preserved c =
    rw c.from.ensures (union_more c.args.masks.now c.loop-row.all c.loop-row.row c.args.to c.loop-row-test.true ∙ c.loop-row.invariant)

pub returns : goal.returns
returns c =
    sym (union-none c.args.masks.now c.loop-row.all c.loop-row.row c.args.to c.loop-row-test.false) ∙ c.loop-row.invariant
