-- `circuitfile::read_one` meets its contract: it makes the definition's test of the length, then reads the record. Assumes nothing.
use borrow.Author.Tests.{eq-eqb, ne_eqb}
use Rattle.gates.specs.Circuit.{judge_one}
use Rattle.circuitfile.proofs.read_one.Goals as goal

pub returns-then-s-eq-GT_SIZE : goal.returns-then-s-eq-GT_SIZE
unfolding judge_one
returns-then-s-eq-GT_SIZE c =
    simp (eq-eqb _ 6 c.if-s-eq-GT_SIZE.true) c.read_gates.ensures

pub returns : goal.returns
unfolding judge_one
returns c =
    simp (ne_eqb _ 6 c.if-s-eq-GT_SIZE.false)
