-- `leveling::grow_level` meets its contract: the states left, from the level held, give what all states give from the level at the start. Assumes
-- nothing.
use Prim.Native.Nat.{◌+◌}
use native.Mathlib.Omega.{arith}
use lib.Dec.{eqb}
use lib.ListN.{get_or}
use Rattle.stepwise.specs.Grow.{grow_state}
use Rattle.roles.specs.Kept.{role_is}
use Rattle.growing.proofs.Growth.{over-all}
use Rattle.growing.proofs.Going.{going_on, gone_over, going_last, kept-all, kept_on}
use Rattle.moving.specs.Moves.{moves_of}
use Rattle.leveling.proofs.Turns.{left_from, left-all, left-turn, left-none}
use Rattle.leveling.proofs.grow_level.Goals as goal

pub loop-k-init : goal.loop-k-init
loop-k-init c = (
  record { held = left-all c.args.level.now.most.base (moves_of (role_is c.args.role) c.args.old.now.rows.now c.args.old.now.masks.now c.args.old.now.first.now) c.args.start c.args.cur.now c.args.count _; growing = c.requires.growing },
  kept-all,
)

pub returns-in_err-grow_state-clause-grew : goal.returns-in_err-grow_state-clause-grew
returns-in_err-grow_state-clause-grew c =
    let f = moves_of (role_is c.args.role) c.args.old.now.rows.now c.args.old.now.masks.now c.args.old.now.first.now in
    rw c.from_residual.ensures
    (gone_over c.loop-k.invariant.0 c.args.level.now.most (grow_state eqb c.args.level.now.most.base (c.args.start + c.loop-k.k) (f (get_or c.args.cur.now c.loop-k.k 0)))
    (left_from c.args.level.now.most.base f c.args.start c.args.cur.now c.args.count (c.loop-k.k + 1))
    (left-turn c.args.level.now.most.base f c.args.start c.args.cur.now c.args.count c.loop-k.k (omega arith) c.requires.source.there) (over-all c.args.level.now.most f _ _) (rw c.loop-k.invariant.1.same_most at c.in_err-grow_state.ensures.grew))

pub loop-k-preserved : goal.loop-k-preserved
loop-k-preserved c =
    let f = moves_of (role_is c.args.role) c.args.old.now.rows.now c.args.old.now.masks.now c.args.old.now.first.now in (
      going_on c.loop-k.invariant.0 c.args.level.now.most (grow_state eqb c.args.level.now.most.base (c.args.start + c.loop-k.k) (f (get_or c.args.cur.now c.loop-k.k 0)))
          (left_from c.args.level.now.most.base f c.args.start c.args.cur.now c.args.count (c.loop-k.k + 1))
          (left-turn c.args.level.now.most.base f c.args.start c.args.cur.now c.args.count c.loop-k.k (omega arith) c.requires.source.there) (rw c.loop-k.invariant.1.same_most at c.in_ok-grow_state.ensures.grew),
      kept_on c.loop-k.invariant.1 c.grow_state.ensures.kept,
    )

pub returns-clause-grew : goal.returns-clause-grew
returns-clause-grew c =
    going_last c.loop-k.invariant.0 c.args.level.now.most (left-none c.args.level.now.most.base (moves_of (role_is c.args.role) c.args.old.now.rows.now c.args.old.now.masks.now c.args.old.now.first.now) c.args.start c.args.cur.now c.args.count c.loop-k.k (omega arith))
