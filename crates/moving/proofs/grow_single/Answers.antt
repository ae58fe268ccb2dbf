-- `moving::grow_single` meets its contract: the rows left, from the level held, give what all rows give from the level at the start. Assumes nothing.
use mathlib.Core.Path.{refl}
use Prim.Native.Nat.{◌+◌, ◌-◌}
use native.Mathlib.Omega.{arith}
use lib.ListN.{get_or}
use Rattle.automata.specs.Choice.{alt, map_alt}
use Rattle.lookup.specs.Lookup.{pair_row}
use Rattle.lookup.specs.Alts.{alts_from}
use Rattle.roles.specs.Kept.{role_is, single_kids}
use Rattle.growing.proofs.Growth.{over_state}
use Rattle.growing.proofs.Going.{going_on, gone_over, going_last, kept-all, kept_on}
use Rattle.moving.specs.Moves.{grow_alt, grow_alts}
use Rattle.moving.proofs.Rows.{single-turn, single-end}
use Rattle.moving.proofs.grow_single.Goals as goal

pub loop-i-init : goal.loop-i-init
loop-i-init c = (record { held = refl; growing = c.requires.growing }, kept-all)

pub returns-in_err-grow_row-clause-grew : goal.returns-in_err-grow_row-clause-grew
returns-in_err-grow_row-clause-grew c =
    let kids = single_kids (role_is c.args.role) c.args.how in
    rw c.from_residual.ensures
    (gone_over c.loop-i.invariant.0 c.args.level.now.most (grow_alt c.args.level.now.most c.args.state (alt (get_or c.args.old.now.masks.now c.loop-i.i 0) (kids (pair_row c.args.old.now.rows.now c.loop-i.i))))
    (grow_alts c.args.level.now.most c.args.state (map_alt kids (alts_from c.args.old.now.rows.now c.args.old.now.masks.now (c.loop-i.i + 1) (c.args.to - (c.loop-i.i + 1)))))
    (single-turn c.args.level.now.most c.args.state kids c.args.old.now.rows.now c.args.old.now.masks.now c.loop-i.i c.args.to (omega arith)) (over_state c.args.level.now.most c.args.state _) (rw c.loop-i.invariant.1.same_most at c.in_err-grow_row.ensures.grew))

pub loop-i-preserved : goal.loop-i-preserved
loop-i-preserved c =
    let kids = single_kids (role_is c.args.role) c.args.how in (
      going_on c.loop-i.invariant.0 c.args.level.now.most (grow_alt c.args.level.now.most c.args.state (alt (get_or c.args.old.now.masks.now c.loop-i.i 0) (kids (pair_row c.args.old.now.rows.now c.loop-i.i))))
          (grow_alts c.args.level.now.most c.args.state (map_alt kids (alts_from c.args.old.now.rows.now c.args.old.now.masks.now (c.loop-i.i + 1) (c.args.to - (c.loop-i.i + 1)))))
          (single-turn c.args.level.now.most c.args.state kids c.args.old.now.rows.now c.args.old.now.masks.now c.loop-i.i c.args.to (omega arith)) (rw c.loop-i.invariant.1.same_most at c.in_ok-grow_row.ensures.grew),
      kept_on c.loop-i.invariant.1 c.grow_row.ensures.kept,
    )

pub returns-clause-grew : goal.returns-clause-grew
returns-clause-grew c =
    going_last c.loop-i.invariant.0 c.args.level.now.most (single-end c.args.level.now.most c.args.state (single_kids (role_is c.args.role) c.args.how) c.args.old.now.rows.now c.args.old.now.masks.now c.loop-i.i c.args.to (omega arith))
