-- The record that `grow` adds has the given mask and the keys of the two rows' children, since those are what it is handed. Assumes nothing.
use Rattle.gates.specs.Roles.{pair_kids}
use Rattle.lookup.specs.Lookup.{pair_row}
use Rattle.roles.specs.Kept.{role_is, side_is}
use Rattle.growing.specs.Growing.{level_in}
use Rattle.moving.proofs.Rows.{kids-grown}
use Rattle.moving.proofs.grow_two.Goals as goal

pub returns-clause-grew : goal.returns-clause-grew
returns-clause-grew c =
    let kids = pair_kids (role_is c.args.role) (side_is c.args.side) (pair_row c.args.old.now.rows.now c.args.m.i) (pair_row c.args.old.now.rows.now c.args.m.j) in
    kids-grown c.args.level.now.most c.args.state c.args.m.mask (level_in c.args.level.now) kids c.two_kids-kids.ensures c.grow.ensures.grew
