-- The leaves fit whatever is marked. Assumes nothing.
use Rattle.foreseeing.proofs.fn.foresee_leaves.meet_where.Goals as goal

pub returns : goal.returns
returns c =
    c.leaf_could.ensures c.args.may.now
