-- The image states so far were walked over. Assumes nothing.
-- image state s passes with each end state that it meets
use mathlib.Core.Path.{refl}
use native.Mathlib.Omega.{arith}
use borrow.Author.Rules.{rules}
use Rattle.meeting.specs.All.{met_in}
use Rattle.stepping.specs.Step.{kids_on}
use Rattle.stepping.proofs.Walks.{walk_none, walk_all, walk_more, walk_stops, same_state, row-again, stage-row}
use Rattle.stepping.proofs.step_states.Invariants.{F}
use Rattle.stepping.proofs.step_states.Goals as goal

pub loop-s-init : goal.loop-s-init
loop-s-init c =
    (omega arith, refl, λ next ready. walk_none (F c.args.sides.now.image.rows.now c.args.sides.now.image.masks.now c.args.sides.now.image.first.now c.args.sides.now.end.rows.now c.args.sides.now.end.masks.now c.args.sides.now.end.first.now c.args.met.now c.args.sides.now.wide c.args.c c.args.d c.args.level.start c.args.level.stop) c.args.sides.now.wide c.args.met.now next c.args.level.from)

pub step_state-requires : goal.step_state-requires
step_state-requires c =
    ((c.requires.0.0, row-again c.loop-s.invariant.1 (stage-row c.requires.0.1 c.loop-s.s c.loop-s.auto.s c.loop-s-test.true)), c.requires.1, c.requires.2)

pub returns-then-not-step_state : goal.returns-then-not-step_state
unfolding met_in
returns-then-not-step_state c =
    λ next stage.
    let r = stage-row stage c.loop-s.s c.loop-s.auto.s c.loop-s-test.true in
    let w = c.loop-s.invariant.2 next (stage-row stage) in
    walk_stops (F c.args.sides.now.image.rows.now c.args.sides.now.image.masks.now c.args.sides.now.image.first.now c.args.sides.now.end.rows.now c.args.sides.now.end.masks.now c.args.sides.now.end.first.now c.args.met.now c.args.sides.now.wide c.args.c c.args.d c.args.level.start c.args.level.stop) c.args.sides.now.wide c.args.met.now next c.args.level.from c.loop-s.s c.loop-s.auto.s w
    (λ g. F c.args.sides.now.image.rows.now c.args.sides.now.image.masks.now c.args.sides.now.image.first.now c.args.sides.now.end.rows.now c.args.sides.now.end.masks.now c.args.sides.now.end.first.now c.loop-s.met c.args.sides.now.wide c.args.c c.args.d c.args.level.start c.args.level.stop g c.loop-s.s)
    (same_state (kids_on c.args.sides.now c.args.c c.args.d) r w.kept) (c.step_state.ensures next (row-again c.loop-s.invariant.1 r)) c.args.level.to c.loop-s-test.true c.if-not-step_state.true

pub loop-s-preserved : goal.loop-s-preserved
loop-s-preserved c = (
  omega (arith, c.loop-s-test.true),
  search rules,
  λ next ready.
      let r = ready c.loop-s.s c.loop-s.auto.s c.loop-s-test.true in
      let w = c.loop-s.invariant.2 next ready in
      walk_more (F c.args.sides.now.image.rows.now c.args.sides.now.image.masks.now c.args.sides.now.image.first.now c.args.sides.now.end.rows.now c.args.sides.now.end.masks.now c.args.sides.now.end.first.now c.args.met.now c.args.sides.now.wide c.args.c c.args.d c.args.level.start c.args.level.stop) c.args.sides.now.wide c.args.met.now next c.args.level.from c.loop-s.s c.loop-s.auto.s w
      (λ g. F c.args.sides.now.image.rows.now c.args.sides.now.image.masks.now c.args.sides.now.image.first.now c.args.sides.now.end.rows.now c.args.sides.now.end.masks.now c.args.sides.now.end.first.now c.loop-s.met c.args.sides.now.wide c.args.c c.args.d c.args.level.start c.args.level.stop g c.loop-s.s)
      (same_state (kids_on c.args.sides.now c.args.c c.args.d) r w.kept) (c.step_state.ensures next (row-again c.loop-s.invariant.1 r)) c.if-not-step_state.false,
)

pub returns : goal.returns
unfolding met_in
returns c =
    λ next stage.
    walk_all (F c.args.sides.now.image.rows.now c.args.sides.now.image.masks.now c.args.sides.now.image.first.now c.args.sides.now.end.rows.now c.args.sides.now.end.masks.now c.args.sides.now.end.first.now c.args.met.now c.args.sides.now.wide c.args.c c.args.d c.args.level.start c.args.level.stop) c.args.sides.now.wide c.args.met.now next c.args.level.from c.args.level.to c.loop-s.s c.loop-s-test.false c.loop-s.invariant.0 (c.loop-s.invariant.2 next (stage-row stage))
