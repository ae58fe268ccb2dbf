-- Choice after choice that all end states have, while there is room; the spare row has the relation still. Assumes nothing.
use Prim.Native.Nat.{◌<◌, ◌≤◌}
use native.Mathlib.Omega.{arith}
use Rattle.meeting.proofs.Places.{words-before}
use Rattle.batching.proofs.Grounds.{ground-again, shared_ground}
use Rattle.batching.proofs.Batches.{takes, takes_on, takes_next, takes_all, took}
use Rattle.batching.proofs.take_choices.Goals as goal

pub shared_choices-shared-requires : goal.shared_choices-shared-requires
shared_choices-shared-requires c =
    shared_ground c.requires.0

pub loop-d-init : goal.loop-d-init
loop-d-init c =
    (c.requires.2, takes c.requires.4 c.requires.2)

pub next_choice-requires : goal.next_choice-requires
next_choice-requires c =
    omega (arith, c.loop-d.invariant.1.most)

pub returns-then-r-step : goal.returns-then-r-step
returns-then-r-step c =
    took (takes_next c.loop-d.invariant.1 c.shared_choices-shared.ensures c.in-Some.ensures) (λ lt lt'. omega (arith, c.if-r-step.true))

pub take_choice-r-requires : goal.take_choice-r-requires
take_choice-r-requires c =
    let lt : c.loop-d.r < c.args.step.now.room = omega (arith, c.loop-d.invariant.0, c.if-r-step.false) in
    let w = words-before c.args.step.now.plane c.loop-d.r c.args.step.now.room lt in
    (ground-again c.requires.0 c.loop-d.invariant.1.trying.spare, omega (arith, c.requires.1, c.loop-d.invariant.1.trying.long), omega arith, c.requires.3, c.in-Some.ensures.below)

pub loop-d-smaller : goal.loop-d-smaller
loop-d-smaller c =
    omega (arith, c.in-Some.ensures.after, c.in-Some.ensures.below)

pub loop-d-preserved : goal.loop-d-preserved
loop-d-preserved c =
    let lt : c.loop-d.r < c.args.step.now.room = omega (arith, c.loop-d.invariant.0, c.if-r-step.false) in
    let t = takes_on (takes_next c.loop-d.invariant.1 c.shared_choices-shared.ensures c.in-Some.ensures) c.in-Some.ensures.below lt c.requires.0.stage.small c.take_choice-r.auto.stack c.take_choice-r.auto.scratch c.take_choice-r.ensures.1 c.take_choice-r.ensures.0 c.take_choice-r.ensures.2 in
    (omega (arith, c.take_choice-r.ensures.0.few), t)

pub returns : goal.returns
returns c =
    took (takes_all c.loop-d.invariant.1 c.shared_choices-shared.ensures c.in_default.ensures) (λ lt lt'. omega arith)
