-- The cycle of the search in batches: each batch is judged one level down. The levels left fall, and so do the places left on a level.
-- Assumes nothing.
use Prim.Native.Nat.{suc, ◌+◌, ◌-◌}
use Rattle.batching.proofs.Grows.{low_on, low_less}
use Rattle.matching.specs.On.{automaton_of}
use Rattle.judging.proofs.Turning.{judging-again, batch_ground, judge_next, wise, sift_none, sift_all, sift_hit, sift_on}
use Rattle.matching.proofs.Turns.{next_fits, small-level, long-level, letter-small, leaf-stage, again, one_less, below_all, hints-again}
use mathlib.Core.Path.{◌≡◌, refl, sym, ◌∙◌}
use native.Mathlib.Nat.{mul-le-mul_right}
use native.Mathlib.Omega.{arith}
use Rattle.judging.proofs.+judge_from.Goals as goal

-- the places before `place` lead to no word, and the relations of this level stand still

pub leads-requires : goal.leads-requires
leads-requires t c =
    (leaf-stage (again refl (sym c.if-left-eq0.true) c.requires.0.seeking), letter-small c.args.left c.requires.0.seeking, omega (arith, mul-le-mul_right c.args.search.now.plane c.requires.0.space.few, c.requires.0.space.high))

pub next_level-next-requires : goal.next_level-next-requires
next_level-next-requires t c =
    (c.requires.0.seeking.here, next_fits (c.args.left - 1) (again refl (one_less c.args.left c.if-left-eq0.false) c.requires.0.seeking))

pub loop-place-init : goal.loop-place-init
loop-place-init t c =
    (refl, refl, sift_none (automaton_of c.args.search.now.sides.image) (automaton_of c.args.search.now.sides.end) c.args.search.now.word.now c.args.at (c.args.left - 1) c.args.search.now.sides.wide c.args.search.now.plane c.args.stack.now c.args.p c.args.level)

pub batch-reached-requires : goal.batch-reached-requires
batch-reached-requires t c =
    let less = one_less c.args.left c.if-left-eq0.false in
    let same : c.args.at + suc (c.args.left - 1) ≡ c.args.at + c.args.left = omega (arith, less) in
    (batch_ground (c.args.left - 1) (judging-again refl c.loop-place.invariant.1 less c.requires.0) c.next_level-next.ensures (hints-again same c.requires.1).long, omega (arith, c.requires.0.space.high, c.loop-place.invariant.0), c.requires.0.space.few, letter-small c.args.left c.requires.0.seeking)

pub judge_from-requires : goal.judge_from-requires
judge_from-requires t c =
    let less = one_less c.args.left c.if-left-eq0.false in
    let same : c.args.at + 1 + (c.args.left - 1) ≡ c.args.at + c.args.left = omega (arith, less) in (
      omega (arith, c.decreases, less),
      (judge_next (c.args.left - 1) (judging-again (c.batch-reached.auto.stack ∙ c.loop-place.invariant.0) (c.batch-reached.auto.scratch ∙ c.loop-place.invariant.1) less c.requires.0) c.next_level-next.ensures c.batch-reached.ensures.filled.few, hints-again same c.requires.1),
    )

pub returns-then-judge_from : goal.returns-then-judge_from
returns-then-judge_from t c =
    let less = one_less c.args.left c.if-left-eq0.false in
    let down = below_all (c.args.left - 1) (again refl less c.requires.0.seeking) c.next_level-next.ensures in
    (sift_hit c.args.search.now.sides.image.coefs.now c.args.search.now.sides.end.coefs.now c.loop-place.invariant.2 (small-level c.args.left c.requires.0.seeking) (long-level c.args.left c.requires.0.seeking) c.batch-reached.ensures refl c.args.left less (sym c.judge_from.ensures.0 ∙ c.if-judge_from.true), low_on c.loop-place.invariant.2.low (low_on c.batch-reached.ensures.filled.low (low_less down c.judge_from.ensures.1)))

pub loop-place-preserved : goal.loop-place-preserved
loop-place-preserved t c =
    let less = one_less c.args.left c.if-left-eq0.false in
    let same : c.args.at + suc (c.args.left - 1) ≡ c.args.at + c.args.left = omega (arith, less) in
    let down = below_all (c.args.left - 1) (again refl less c.requires.0.seeking) c.next_level-next.ensures in (
      c.judge_from.auto.stack ∙ c.batch-reached.auto.stack ∙ c.loop-place.invariant.0,
      c.judge_from.auto.scratch ∙ c.batch-reached.auto.scratch ∙ c.loop-place.invariant.1,
      sift_on c.args.search.now.sides.image.coefs.now c.args.search.now.sides.end.coefs.now c.loop-place.invariant.2 (small-level c.args.left c.requires.0.seeking) (long-level c.args.left c.requires.0.seeking) c.batch-reached.ensures refl (wise (c.args.left - 1) (judging-again refl refl less c.requires.0) c.next_level-next.ensures (hints-again same c.requires.1)) (sym c.judge_from.ensures.0 ∙ c.if-judge_from.false) (low_less down c.judge_from.ensures.1),
    )

pub returns : goal.returns
returns t c =
    (sift_all c.args.left (one_less c.args.left c.if-left-eq0.false) (omega (arith, c.loop-place-test.false)) c.loop-place.invariant.2, c.loop-place.invariant.2.low)
