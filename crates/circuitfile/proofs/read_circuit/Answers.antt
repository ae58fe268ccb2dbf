-- `circuitfile::read_circuit` meets its contract: it makes the definition's test of the length, then reads the records. Assumes nothing.
use Rattle.gates.specs.Circuit.{judge_circuit}
use Rattle.circuitfile.proofs.read_circuit.Goals as goal

pub returns-then-ok : goal.returns-then-ok
unfolding judge_circuit
returns-then-ok c =
    simp c.if-ok.true c.read_gates.ensures

pub returns : goal.returns
unfolding judge_circuit
returns c =
    simp c.if-ok.false
