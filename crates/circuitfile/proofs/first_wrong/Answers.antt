-- `circuitfile::first_wrong` meets its contract: the scan stops at the first record that is no gate, or at their count. Assumes nothing.
use borrow.Author.Rules.{rules}
use Rattle.circuitfile.proofs.Judging.{none_wrong, wrong_here}
use Rattle.circuitfile.proofs.first_wrong.Goals as goal

pub returns-in-None : goal.returns-in-None
returns-in-None c = none_wrong c.args.n c.args.s.now _ (λ i r e. search rules) c.in-None.ensures

pub returns-in-Some : goal.returns-in-Some
returns-in-Some c = wrong_here c.args.n c.args.s.now _ (λ i r e. search rules) c.in-Some.ensures
