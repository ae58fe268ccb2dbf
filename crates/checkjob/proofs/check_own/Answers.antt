-- `checkjob::check_own` meets its contract: arrays of the named sizes are never short. Assumes nothing.
use Rattle.checkjob.proofs.Tested.{own-long, own_reply}
use Rattle.checkjob.proofs.check_own.Goals as goal

pub returns : goal.returns
returns c =
    own_reply c.args.start.now c.args.circuit.now c.args.end.now c.args.terms.most _ own-long c.check.ensures.value
