-- `circuits::gate_at` meets its contract: the six bytes that it hands over are those that the definition reads. Assumes nothing.
use Rattle.stored.specs.Fields.{mark_at}
use Rattle.gates.specs.Circuit.{gate_at}
use Rattle.circuits.proofs.gate_at.Goals as goal

pub returns : goal.returns
unfolding gate_at mark_at
returns c =
    c.gate_of.ensures
