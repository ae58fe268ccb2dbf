-- The rows left, from here, give what all of them give. Assumes nothing.
use mathlib.Core.Path.{sym, ap, ◌∙◌}
use Rattle.lookup.specs.Answer.{found}
use Rattle.lookup.proofs.Turns.{row_here, row_on, row-none}
use Rattle.lookup.proofs.find_row.Goals as goal

pub returns-then-has_choice : goal.returns-then-has_choice
returns-then-has_choice c =
    ap found (sym (row_here c.args.masks.now c.args.choice c.loop-i.i c.args.to c.loop-i-test.true (rw c.from.ensures at (sym c.has_choice.ensures ∙ c.if-has_choice.true))) ∙ c.loop-i.invariant)

pub loop-i-preserved : goal.loop-i-preserved
loop-i-preserved c =
    row_on c.args.masks.now c.args.choice c.loop-i.i c.args.to c.loop-i-test.true (rw c.from.ensures at (sym c.has_choice.ensures ∙ c.if-has_choice.false)) ∙ c.loop-i.invariant

pub returns : goal.returns
returns c =
    ap found (sym (row-none c.args.masks.now c.args.choice c.loop-i.i c.args.to c.loop-i-test.false) ∙ c.loop-i.invariant)
