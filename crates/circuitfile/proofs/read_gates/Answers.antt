-- `circuitfile::read_gates` meets its contract: no record is wrong exactly where the first wrong one is past the last. Assumes nothing.
use borrow.Author.Rules.{rules}
use Rattle.circuitfile.proofs.Judging.{wrong_within, gates_counted, wrong_gate}
use Rattle.circuitfile.proofs.read_gates.Goals as goal

pub returns-then-wrong-count : goal.returns-then-wrong-count
returns-then-wrong-count c =
    gates_counted c.args.n c.args.s.now c.first_wrong-wrong.result c.first_wrong-wrong.ensures c.if-wrong-count.true

pub overflow_cast-result-2 : goal.overflow_cast-result-2
overflow_cast-result-2 c =
    let w = wrong_within c.args.n c.args.s.now in
    search rules

pub overflow_add-result : goal.overflow_add-result
overflow_add-result c =
    let w = wrong_within c.args.n c.args.s.now in
    search rules

pub returns : goal.returns
returns c =
    wrong_gate c.args.n c.args.s.now c.first_wrong-wrong.result c.first_wrong-wrong.ensures c.if-wrong-count.false
