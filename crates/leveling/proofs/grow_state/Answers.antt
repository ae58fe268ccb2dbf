-- `leveling::grow_state` meets its contract: the key says which states' rows give its records. Assumes nothing.
use Rattle.tables.specs.Slices.{table_is}
use Rattle.roles.specs.Kept.{role_is}
use Rattle.roles.specs.declared.Key.TheVariants.{Pair}
use Rattle.roles.proofs.KeyMoves.{of-states, one-state}
use Rattle.leveling.specs.Keyed.{RowsOf}
use Rattle.leveling.proofs.States.{single_of, pair_of}
use Rattle.leveling.proofs.grow_state.Goals as goal

pub grow_one-requires-clause-source : goal.grow_one-requires-clause-source
grow_one-requires-clause-source c =
    one-state (RowsOf (table_is c.args.old.now)) c.in-One.how c.in-One.q c.args.key c.in-One.ensures c.requires.source.first (λ a b. c.requires.source.second)

pub grow_both-requires-clause-source : goal.grow_both-requires-clause-source
grow_both-requires-clause-source c =
    of-states (RowsOf (table_is c.args.old.now)) (Pair c.in-Pair.side c.in-Pair.q c.in-Pair.p) c.args.key c.in-Pair.ensures c.requires.source.first (λ a b. c.requires.source.second)

pub returns-in-One-clause-grew : goal.returns-in-One-clause-grew
returns-in-One-clause-grew c =
    rw (single_of (role_is c.args.role) c.args.old.now.rows.now c.args.old.now.masks.now c.args.old.now.first.now c.args.key c.in-One.how c.in-One.q c.in-One.ensures) at c.grow_one.ensures.grew

pub returns-in-Pair-clause-grew : goal.returns-in-Pair-clause-grew
returns-in-Pair-clause-grew c =
    rw (pair_of (role_is c.args.role) c.args.old.now.rows.now c.args.old.now.masks.now c.args.old.now.first.now c.args.key c.in-Pair.side c.in-Pair.q c.in-Pair.p c.in-Pair.ensures) at c.grow_both.ensures.grew
