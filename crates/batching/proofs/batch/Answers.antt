-- Relation after relation, while there is room; those of the level stay. Assumes nothing.
use mathlib.Core.Path.{refl, ◌∙◌}
use Prim.Native.Nat.{◌*◌}
use native.Mathlib.Omega.{arith}
use borrow.Author.Rules.{rules}
use Rattle.relating.proofs.Relations.{turning}
use Rattle.batching.proofs.Grounds.{ground-again, level-long}
use Rattle.batching.proofs.Batches.{turned, batches, batches_on, batched}
use Rattle.batching.proofs.batch.Goals as goal

pub loop-place-init : goal.loop-place-init
loop-place-init c =
    (refl, refl, batches)

pub overflow_cast-k : goal.overflow_cast-k
overflow_cast-k c =
    let t = turning c.loop-place.place (c.args.p * 32) c.loop-place.q c.args.step.now.room c.loop-place-test.true in omega (arith, t.0)

pub overflow_cast-place : goal.overflow_cast-place
overflow_cast-place c =
    omega arith

pub take_from-turn-requires : goal.take_from-turn-requires
take_from-turn-requires c =
    let t = turning c.loop-place.place (c.args.p * 32) c.loop-place.q c.args.step.now.room c.loop-place-test.true in
    (ground-again c.requires.0 c.loop-place.invariant.1, omega (arith, c.requires.1, c.loop-place.invariant.0), omega (arith, t.1), c.requires.3, omega arith, omega (arith, t.0, c.requires.2))

pub overflow_mul-place : goal.overflow_mul-place
overflow_mul-place c =
    let t = turning c.loop-place.place (c.args.p * 32) c.loop-place.q c.args.step.now.room c.loop-place-test.true in omega (arith, t.0)

pub overflow_cast-place-in-loop-place : goal.overflow_cast-place-in-loop-place
overflow_cast-place-in-loop-place c =
    search rules

pub overflow_add-place : goal.overflow_add-place
overflow_add-place c =
    let t = turning c.loop-place.place (c.args.p * 32) c.loop-place.q c.args.step.now.room c.loop-place-test.true in omega (arith, t.0, c.take_from-turn.ensures.most)

pub loop-place-smaller : goal.loop-place-smaller
loop-place-smaller c =
    let t = turning c.loop-place.place (c.args.p * 32) c.loop-place.q c.args.step.now.room c.loop-place-test.true in
    let m = c.take_from-turn.ensures.moves (omega arith) t.1 in
    omega (arith, t.0, m)

pub loop-place-preserved : goal.loop-place-preserved
loop-place-preserved c =
    let t = turning c.loop-place.place (c.args.p * 32) c.loop-place.q c.args.step.now.room c.loop-place-test.true in
    (c.take_from-turn.auto.stack ∙ c.loop-place.invariant.0, c.take_from-turn.auto.scratch ∙ c.loop-place.invariant.1, batches_on c.requires.0.stage.small (level-long c.requires.0) c.loop-place.invariant.2 c.take_from-turn.ensures t.0 t.1)

pub returns : goal.returns
returns c =
    batched c.loop-place.invariant.2 (turned c.loop-place.place (c.args.p * 32) c.loop-place.q c.args.step.now.room c.loop-place-test.false)
