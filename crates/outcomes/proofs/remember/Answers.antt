-- A block that is settled is kept with the members counted since. Assumes nothing.
use Rattle.outcomes.proofs.remember.Goals as goal

pub returns-clause-memory : goal.returns-clause-memory
returns-clause-memory c =
    let z = c.settled.ensures c.if-not-settled.false in
    λ low good rises e f memory says. c.keep.ensures.memory low good rises e f memory (says z.0 z.1)
