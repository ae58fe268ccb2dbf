-- The states so far were walked over. Assumes nothing.
use mathlib.Core.Path.{refl}
use native.Mathlib.Omega.{arith}
use borrow.Author.Rules.{rules}
use Rattle.reaching.specs.Reached.{kids_in}
use Rattle.reaching.proofs.Spreads.{walk_none, walk_all, walk_more, walk_stops, ready-again, stage_state}
use Rattle.reaching.proofs.reach_states.Goals as goal

pub loop-s-init : goal.loop-s-init
loop-s-init c =
    (omega arith, refl, λ till stage. walk_none (kids_in c.args.table.now.rows.now c.args.table.now.masks.now c.args.table.now.first.now c.args.c) c.args.reached.now c.args.from c.args.to till)

pub reach_from-requires : goal.reach_from-requires
reach_from-requires c =
    ((c.args.to, c.requires.0.0, ready-again c.loop-s.invariant.1 (stage_state c.requires.0.1 c.loop-s.s c.loop-s.auto.s c.loop-s-test.true)), c.requires.1)

pub returns-then-not-reach_from : goal.returns-then-not-reach_from
returns-then-not-reach_from c =
    λ till stage.
    let r = stage_state stage c.loop-s.s c.loop-s.auto.s c.loop-s-test.true in
    walk_stops (kids_in c.args.table.now.rows.now c.args.table.now.masks.now c.args.table.now.first.now c.args.c) c.args.reached.now c.args.from c.args.to till c.loop-s.s c.loop-s.auto.s c.loop-s-test.true (c.loop-s.invariant.2 till stage)
    (c.reach_from.ensures c.args.to till (ready-again c.loop-s.invariant.1 r)) c.if-not-reach_from.true

pub loop-s-preserved : goal.loop-s-preserved
loop-s-preserved c = (
  omega (arith, c.loop-s-test.true),
  search rules,
  λ till stage.
      let r = stage_state stage c.loop-s.s c.loop-s.auto.s c.loop-s-test.true in
      walk_more (kids_in c.args.table.now.rows.now c.args.table.now.masks.now c.args.table.now.first.now c.args.c) c.args.reached.now c.args.from c.args.to till c.loop-s.s c.loop-s.auto.s c.loop-s-test.true (c.loop-s.invariant.2 till stage)
      (c.reach_from.ensures c.args.to till (ready-again c.loop-s.invariant.1 r)) c.if-not-reach_from.false,
)

pub returns : goal.returns
returns c =
    λ till stage. walk_all (kids_in c.args.table.now.rows.now c.args.table.now.masks.now c.args.table.now.first.now c.args.c) c.args.reached.now c.args.from c.args.to till c.loop-s.s c.loop-s-test.false c.loop-s.invariant.0 (c.loop-s.invariant.2 till stage)
